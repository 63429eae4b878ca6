-- Inboxes of desks that came back, one after another.
use Rattle.std.proofs.Common.{◌≡◌, ◌∙◌, sym, refl, ap, subst, ℕ, zero, suc, ◌<◌, List, [], ◌∷◌, ◌++◌, append_assoc, length, map, slice_get, ◌⊎◌, Some, inl, inr, arith}
use Rattle.std.proofs.lemmas.List.{length-map}
use Rattle.std.proofs.lemmas.List.Elements.{All-cons, All-head, All-nil, All-tail, All-weaker}
use Rattle.std.specs.List.{All, FoldsTo}
use Rattle.rx_mailbox.specs.Boxes.{Box, Incoming, Outgoing}
use Rattle.rx_pump.specs.declared.call.Call.{Call}
use Rattle.rx_pump.specs.declared.call_desk.ended_desk.EndedDesk.{EndedDesk}
use Rattle.rx_pump.specs.declared.reply.Reply.{Reply}
use Rattle.rx_pump.specs.Pumps.{port_place}
use Rattle.rx_server.specs.Leaving.{HasItsBoxes}
use Rattle.rx_server.specs.Returning.{CameTwice, ComesAgain, ReturnsInbox, number_of}
use Rattle.rx_server.specs.Wirings.{Wiring}
use Rattle.rx_mailbox.specs.Parts.{LacksInbox, PartsView, placed}
use Rattle.rx_mailbox.proofs.Gathered.{AllInboxes, inboxes_of, placed-count, placed-inboxes, placed-ports, ports_of}
use Rattle.rx_mailbox.proofs.Room.{placed-lacks}

-- what holds of all holds of the item behind the first ones
pub All-here : {X : Type 0} (P : X → Type 0) (xs : List X) (x : X) (ys : List X) → All P (xs ++ x ∷ ys) → P x
All-here P [] x ys all = All-head P x ys all
All-here P (y ∷ xs) x ys all = All-here P xs x ys (All-tail P y (xs ++ x ∷ ys) all)

-- of a list in two parts
pub All-front : {X : Type 0} (P : X → Type 0) (xs ys : List X) → All P (xs ++ ys) → All P xs
All-front P [] ys all = All-nil P
All-front P (x ∷ xs) ys all = All-cons P x xs (All-head P x (xs ++ ys) all) (All-front P xs ys (All-tail P x (xs ++ ys) all))

pub All-back : {X : Type 0} (P : X → Type 0) (xs ys : List X) → All P (xs ++ ys) → All P ys
All-back P [] ys all = all
All-back P (x ∷ xs) ys all = All-back P xs ys (All-tail P x (xs ++ ys) all)

-- what holds of what is made of each
pub All-made : {X Y : Type 0} (P : Y → Type 0) (f : X → Y) (xs : List X) → All (λ x. P (f x)) xs → All P (map f xs)
All-made P f [] all = All-nil P
All-made P f (x ∷ xs) all = All-cons P (f x) (map f xs) (All-head (λ x. P (f x)) x xs all) (All-made P f xs (All-tail (λ x. P (f x)) x xs all))

pub All-source : {X Y : Type 0} (P : Y → Type 0) (f : X → Y) (xs : List X) → All P (map f xs) → All (λ x. P (f x)) xs
All-source P f [] all = All-nil (λ x. P (f x))
All-source P f (x ∷ xs) all = All-cons (λ x. P (f x)) x xs (All-head P (f x) (map f xs) all) (All-source P f xs (All-tail P (f x) (map f xs) all))

-- one step after another
pub FoldsTo-append : {P A : Type 0} (R : P → A → P → Type 0) (p : P) (xs ys : List A) (q r : P) → FoldsTo R p xs q → FoldsTo R q ys r → FoldsTo R p (xs ++ ys) r
FoldsTo-append R p [] ys q r first then_ = subst (λ (s : _). FoldsTo R s ys r) (sym first) then_
FoldsTo-append R p (x ∷ xs) ys q r first then_ = (first.0, first.1, FoldsTo-append R first.0 xs ys q r first.2 then_)

module _ {B : Type 0} where
  -- an inbox at its place
  pub placed-here : (place : ℕ) (inbox : Incoming B) (boxes : List (PartsView B)) → place < length boxes → slice_get (inboxes_of (placed place inbox boxes)) place ≡ Some (Some inbox)
  placed-here place inbox [] within = absurd (omega arith)
  placed-here zero inbox (parts ∷ boxes) within = refl
  placed-here (suc place) inbox (parts ∷ boxes) within = placed-here place inbox boxes (omega arith)

  -- those that came back stay
  pub placed-stays : (place other : ℕ) (inbox one : Incoming B) (boxes : List (PartsView B)) → LacksInbox place boxes
      → slice_get (inboxes_of boxes) other ≡ Some (Some one) → slice_get (inboxes_of (placed place inbox boxes)) other ≡ Some (Some one)
  placed-stays place other inbox one [] lacks is = is
  placed-stays zero zero inbox one (parts ∷ boxes) lacks is = let none = lacks parts refl in cc
  placed-stays zero (suc other) inbox one (parts ∷ boxes) lacks is = is
  placed-stays (suc place) zero inbox one (parts ∷ boxes) lacks is = is
  placed-stays (suc place) (suc other) inbox one (parts ∷ boxes) lacks is = placed-stays place other inbox one boxes lacks is

module _ {S : Type 0} where
  -- the boxes and the ports that came back stay as they are
  pub returns-count : (before : List (PartsView (Reply S))) (desks : List (EndedDesk S)) (after : List (PartsView (Reply S))) → FoldsTo ReturnsInbox before desks after → length after ≡ length before
  returns-count before [] after folds = ap length (sym folds)
  returns-count before (desk ∷ desks) after folds =
      returns-count folds.0 desks after folds.2 ∙ ap length folds.1.1 ∙ placed-count (number_of desk.ports.items) desk.inbox before

  pub returns-ports : (before : List (PartsView (Reply S))) (desks : List (EndedDesk S)) (after : List (PartsView (Reply S))) → FoldsTo ReturnsInbox before desks after → ports_of after ≡ ports_of before
  returns-ports before [] after folds = ap ports_of (sym folds)
  returns-ports before (desk ∷ desks) after folds =
      returns-ports folds.0 desks after folds.2 ∙ ap ports_of folds.1.1 ∙ placed-ports (number_of desk.ports.items) desk.inbox before

  -- each inbox belongs to the box at its place
  pub returns-inboxes : (xs : List (Box (Reply S))) (before : List (PartsView (Reply S))) (desks : List (EndedDesk S)) (after : List (PartsView (Reply S)))
      → All (λ desk. slice_get xs (number_of desk.ports.items) ≡ Some desk.inbox.box) desks → AllInboxes xs (inboxes_of before)
      → FoldsTo ReturnsInbox before desks after → AllInboxes xs (inboxes_of after)
  returns-inboxes xs before [] after at all folds = subst (λ (l : List (PartsView (Reply S))). AllInboxes xs (inboxes_of l)) folds all
  returns-inboxes xs before (desk ∷ desks) after at all folds =
      let P = λ (desk : EndedDesk S). slice_get xs (number_of desk.ports.items) ≡ Some desk.inbox.box in
      returns-inboxes xs folds.0 desks after (All-tail P desk desks at)
      (subst (λ (l : List (PartsView (Reply S))). AllInboxes xs (inboxes_of l)) (sym folds.1.1)
      (placed-inboxes xs (number_of desk.ports.items) desk.inbox before (All-head P desk desks at) all)) folds.2

  -- an inbox that came back stays
  pub returns-stay : (place : ℕ) (one : Incoming (Reply S)) (before : List (PartsView (Reply S))) (desks : List (EndedDesk S)) (after : List (PartsView (Reply S)))
      → slice_get (inboxes_of before) place ≡ Some (Some one) → FoldsTo ReturnsInbox before desks after → slice_get (inboxes_of after) place ≡ Some (Some one)
  returns-stay place one before [] after is folds = subst (λ (l : List (PartsView (Reply S))). slice_get (inboxes_of l) place ≡ Some (Some one)) folds is
  returns-stay place one before (desk ∷ desks) after is folds =
      returns-stay place one folds.0 desks after
      (subst (λ (l : List (PartsView (Reply S))). slice_get (inboxes_of l) place ≡ Some (Some one)) (sym folds.1.1)
      (placed-stays (number_of desk.ports.items) place desk.inbox one before folds.1.0 is)) folds.2

  -- and each is at its place
  pub returns-at : (before : List (PartsView (Reply S))) (desks : List (EndedDesk S)) (after : List (PartsView (Reply S)))
      → All (λ desk. number_of desk.ports.items < length before) desks → FoldsTo ReturnsInbox before desks after
      → All (λ desk. slice_get (inboxes_of after) (number_of desk.ports.items) ≡ Some (Some desk.inbox)) desks
  returns-at before [] after within folds = All-nil (λ desk. slice_get (inboxes_of after) (number_of desk.ports.items) ≡ Some (Some desk.inbox))
  returns-at before (desk ∷ desks) after within folds =
      let P = λ (desk : EndedDesk S). number_of desk.ports.items < length before in
      let Q = λ (desk : EndedDesk S). number_of desk.ports.items < length folds.0 in
      let count = ap length folds.1.1 ∙ placed-count (number_of desk.ports.items) desk.inbox before in
      let here = subst (λ (l : List (PartsView (Reply S))). slice_get (inboxes_of l) (number_of desk.ports.items) ≡ Some (Some desk.inbox)) (sym folds.1.1)
      (placed-here (number_of desk.ports.items) desk.inbox before (All-head P desk desks within)) in
      All-cons (λ desk. slice_get (inboxes_of after) (number_of desk.ports.items) ≡ Some (Some desk.inbox)) desk desks
      (returns-stay (number_of desk.ports.items) desk.inbox folds.0 desks after here folds.2)
      (returns-at folds.0 desks after (All-weaker P Q (λ desk below. omega (arith, below, count)) desks (All-tail P desk desks within)) folds.2)

  -- DESKS

  -- the ports of a desk have its number
  ports-number : (number : ℕ) (xs : List (Box (Call S))) (ports : List (Outgoing (Call S))) → map port_place ports ≡ map (λ box. (box, number)) xs → All (λ port. port.number ≡ number) ports
  ports-number number [] [] are = All-nil (λ port. port.number ≡ number)
  ports-number number [] (port ∷ ports) are = cc
  ports-number number (x ∷ xs) [] are = cc
  ports-number number (x ∷ xs) (port ∷ ports) are =
      let tail : map port_place ports ≡ map (λ box. (box, number)) xs = cc in
      let head : port_place port ≡ (x, number) = cc in
      All-cons (λ port. port.number ≡ number) port ports (ap (λ (p : Box (Call S) × ℕ). p.1) head) (ports-number number xs ports tail)

  pub desk-ports : (w : Wiring S) (desk : EndedDesk S) (has : HasItsBoxes w desk) → All (λ port. port.number ≡ has.number) desk.ports.items
  desk-ports w desk has = ports-number has.number w.subjects desk.ports.items has.ports

  -- so that is the number of its first port
  first-number : (number : ℕ) (ports : List (Outgoing (Call S))) → 0 < length ports → All (λ port. port.number ≡ number) ports → number_of ports ≡ number
  first-number number [] some all = absurd (omega arith)
  first-number number (port ∷ ports) some all = All-head (λ port. port.number ≡ number) port ports all

  -- a port for each subject
  ports-row : (number : ℕ) (xs : List (Box (Call S))) (ports : List (Outgoing (Call S))) → map port_place ports ≡ map (λ box. (box, number)) xs → map (λ port. port.box) ports ≡ xs
  ports-row number [] [] are = refl
  ports-row number [] (port ∷ ports) are = cc
  ports-row number (x ∷ xs) [] are = cc
  ports-row number (x ∷ xs) (port ∷ ports) are =
      let tail : map port_place ports ≡ map (λ box. (box, number)) xs = cc in
      let head : port_place port ≡ (x, number) = cc in
      let box : port.box ≡ x = ap (λ (p : Box (Call S) × ℕ). p.0) head in
      ap (λ (b : Box (Call S)). b ∷ map (λ port. port.box) ports) box ∙ ap (λ (l : List (Box (Call S))). x ∷ l) (ports-row number xs ports tail)

  pub desk-row : (w : Wiring S) (desk : EndedDesk S) → HasItsBoxes w desk → map (λ port. port.box) desk.ports.items ≡ w.subjects
  desk-row w desk has = ports-row has.number w.subjects desk.ports.items has.ports

  pub desk-number : (w : Wiring S) (desk : EndedDesk S) (has : HasItsBoxes w desk) → 0 < length w.subjects → number_of desk.ports.items ≡ has.number
  desk-number w desk has some =
      let count : length desk.ports.items ≡ length w.subjects = sym (length-map desk.ports.items (λ (port : Outgoing (Call S)). port.box)) ∙ ap length (desk-row w desk has) in
      first-number has.number desk.ports.items (omega (arith, count)) (desk-ports w desk has)

-- DESKS THAT COME AGAIN

both-more : (m n : ℕ) → (m ≡ n) ⊎ ¬ (m ≡ n) → (suc m ≡ suc n) ⊎ ¬ (suc m ≡ suc n)
both-more m n (inl same) = inl (ap suc same)
both-more m n (inr differ) = inr (λ same. differ (omega (arith, same)))

same-or-not : (m n : ℕ) → (m ≡ n) ⊎ ¬ (m ≡ n)
same-or-not zero zero = inl refl
same-or-not zero (suc n) = inr (λ same. omega (arith, same))
same-or-not (suc m) zero = inr (λ same. omega (arith, same))
same-or-not (suc m) (suc n) = both-more m n (same-or-not m n)

module _ {S : Type 0} where
  -- one of these desks has the number
  pub record HasNumber (number : ℕ) (desks : List (EndedDesk S)) : Type 0 where
    pub first : List (EndedDesk S)
    pub one : EndedDesk S
    pub rest : List (EndedDesk S)
    pub parts : first ++ one ∷ rest ≡ desks
    pub same : number_of one.ports.items ≡ number

  number-here : (number : ℕ) (desk : EndedDesk S) (desks : List (EndedDesk S)) → number_of desk.ports.items ≡ number → HasNumber number (desk ∷ desks)
  number-here number desk desks same = record { first = []; one = desk; rest = desks; parts = refl; same = same }

  number-later : (number : ℕ) (desk : EndedDesk S) (desks : List (EndedDesk S)) → HasNumber number desks → HasNumber number (desk ∷ desks)
  number-later number desk desks has = record {
    first = desk ∷ has.first;
    one = has.one;
    rest = has.rest;
    parts = ap (λ (l : List (EndedDesk S)). desk ∷ l) has.parts;
    same = has.same;
  }

  found-by : (number : ℕ) (before : List (PartsView (Reply S))) (desk : EndedDesk S) (desks : List (EndedDesk S)) (next : List (PartsView (Reply S)))
      → next ≡ placed (number_of desk.ports.items) desk.inbox before → LacksInbox number before → (LacksInbox number next → HasNumber number desks)
      → (number_of desk.ports.items ≡ number) ⊎ ¬ (number_of desk.ports.items ≡ number) → HasNumber number (desk ∷ desks)
  found-by number before desk desks next is lacks later (inl same) = number-here number desk desks same
  found-by number before desk desks next is lacks later (inr differ) =
      number-later number desk desks
      (later (subst (LacksInbox number) (sym is) (placed-lacks (number_of desk.ports.items) number desk.inbox before differ lacks)))

  -- an inbox that was missing and is there came back with one of them
  pub found : (number : ℕ) (before : List (PartsView (Reply S))) (desks : List (EndedDesk S)) (after : List (PartsView (Reply S)))
      → LacksInbox number before → FoldsTo ReturnsInbox before desks after → ¬ LacksInbox number after → HasNumber number desks
  found number before [] after lacks folds there = absurd (there (subst (LacksInbox number) folds lacks))
  found number before (desk ∷ desks) after lacks folds there =
      found-by number before desk desks folds.0 folds.1.1 lacks (λ still. found number folds.0 desks after still folds.2 there)
      (same-or-not (number_of desk.ports.items) number)

  -- so where none was there, and one comes again, two of them have one number
  pub came-twice : (before : List (PartsView (Reply S))) (desks : List (EndedDesk S)) → ((place : ℕ) → LacksInbox place before) → ComesAgain before desks → CameTwice desks
  came-twice before desks none again =
      let number = number_of again.desk.ports.items in
      let has = found number before again.first again.came (none number) again.inboxes again.there in
      record {
        first = has.first;
        one = has.one;
        between = has.rest;
        other = again.desk;
        rest = again.rest;
        parts = sym (append_assoc has.first (has.one ∷ has.rest) (again.desk ∷ again.rest)) ∙ ap (λ (l : List (EndedDesk S)). l ++ again.desk ∷ again.rest) has.parts ∙ again.parts;
        same = has.same;
      }

  -- desks that came before
  pub again-front : (before : List (PartsView (Reply S))) (xs ys : List (EndedDesk S)) → ComesAgain before xs → ComesAgain before (xs ++ ys)
  again-front before xs ys again = record {
    first = again.first;
    desk = again.desk;
    rest = again.rest ++ ys;
    parts = sym (append_assoc again.first (again.desk ∷ again.rest) ys) ∙ ap (λ (l : List (EndedDesk S)). l ++ ys) again.parts;
    came = again.came;
    inboxes = again.inboxes;
    there = again.there;
  }

  pub again-behind : (before mid : List (PartsView (Reply S))) (xs ys : List (EndedDesk S)) → FoldsTo ReturnsInbox before xs mid → ComesAgain mid ys → ComesAgain before (xs ++ ys)
  again-behind before mid xs ys folds again = record {
    first = xs ++ again.first;
    desk = again.desk;
    rest = again.rest;
    parts = append_assoc xs again.first (again.desk ∷ again.rest) ∙ ap (λ (l : List (EndedDesk S)). xs ++ l) again.parts;
    came = again.came;
    inboxes = FoldsTo-append ReturnsInbox before xs again.first mid again.came folds again.inboxes;
    there = again.there;
  }
