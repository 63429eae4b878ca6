-- What holds of all parts of boxes, and of the rows that were dealt to them.
use Rattle.std.proofs.Common.{◌≡◌, ◌∙◌, sym, refl, ap, subst, ℕ, zero, suc, List, [], ◌∷◌, ◌++◌, length, slice_get, Option, Some, map, append-nil, arith}
use Rattle.std.proofs.lemmas.List.Elements.{All-cons, All-head, All-nil, All-pop, All-push, All-tail, All-weaker}
use Rattle.std.specs.List.{All, AllZip}
use Rattle.rx_mailbox.specs.Boxes.{Box, HasEachBye, Incoming, Outgoing, incoming}
use Rattle.rx_mailbox.specs.declared.letter.Letter.{Letter}
use Rattle.rx_mailbox.specs.Passes.{IsEmptied, SettledView, inbox_in}
use Rattle.rx_mailbox.specs.Settling.{GotAll}
use Rattle.rx_mailbox.specs.Rests.{ReceivesMore}
use Rattle.rx_mailbox.specs.Parts.{AreOfOneBox, IsEmpty, PartsView, Settles, dealt, dealt_each, with_inboxes, placed, with_inbox}
use Rattle.rx_mailbox.proofs.Rows.{dealt-count}

module _ {X B : Type 0} (P : X → Outgoing B → Type 0) where
  -- of each box all ports that came back are so
  abbrev pub AllPorts : List X → List (PartsView B) → Type 0
  AllPorts xs boxes = AllZip (λ x parts. All (P x) parts.ports) xs boxes

  emptied : (xs : List X) → AllPorts xs [] → xs ≡ []
  emptied [] all = refl
  emptied (x ∷ xs) all = absurd all

  -- then so is each row that was dealt, and so was all that was there
  pub dealt-all : (xs : List X) (ports : List (Outgoing B)) (boxes : List (PartsView B)) → length ports ≡ length boxes
      → AllPorts xs (dealt ports boxes) → AllZip P xs ports × AllPorts xs boxes
  dealt-all xs [] [] count all = let none : xs ≡ [] = emptied xs all in (subst (λ (l : List X). AllZip P l []) (sym none) tt, all)
  dealt-all xs [] (parts ∷ boxes) count all = absurd (omega arith)
  dealt-all xs (port ∷ ports) [] count all = absurd (omega arith)
  dealt-all [] (port ∷ ports) (parts ∷ boxes) count all = absurd all
  dealt-all (x ∷ xs) (port ∷ ports) (parts ∷ boxes) count all =
      let both = All-pop (P x) (parts.ports ++ port ∷ []) parts.ports (Some port) refl all.0 in
      let rest = dealt-all xs ports boxes (omega arith) all.1 in
      ((both.1, rest.0), (both.0, rest.1))

  -- and the other way round
  pub dealt-of : (xs : List X) (ports : List (Outgoing B)) (boxes : List (PartsView B)) → AllZip P xs ports → AllPorts xs boxes → AllPorts xs (dealt ports boxes)
  dealt-of [] [] boxes row all = all
  dealt-of [] (port ∷ ports) boxes row all = absurd row
  dealt-of (x ∷ xs) [] boxes row all = absurd row
  dealt-of (x ∷ xs) (port ∷ ports) [] row all = absurd all
  dealt-of (x ∷ xs) (port ∷ ports) (parts ∷ boxes) row all =
      (All-push (P x) parts.ports port all.0 row.0, dealt-of xs ports boxes row.1 all.1)

  -- the same of several rows
  pub dealt_each-all : (xs : List X) (rows : List (List (Outgoing B))) (boxes : List (PartsView B)) → All (λ ports. length ports ≡ length boxes) rows
      → AllPorts xs (dealt_each rows boxes) → All (AllZip P xs) rows × AllPorts xs boxes
  dealt_each-all xs [] boxes counts all = (All-nil (AllZip P xs), all)
  dealt_each-all xs (ports ∷ rows) boxes counts all =
      let later = dealt_each-all xs rows (dealt ports boxes)
      (All-weaker (λ (l : List (Outgoing B)). length l ≡ length boxes) (λ (l : List (Outgoing B)). length l ≡ length (dealt ports boxes)) (λ l is. is ∙ sym (dealt-count ports boxes)) rows (All-tail (λ (l : List (Outgoing B)). length l ≡ length boxes) ports rows counts)) all in
      let now = dealt-all xs ports boxes (All-head (λ (l : List (Outgoing B)). length l ≡ length boxes) ports rows counts) later.1 in
      (All-cons (AllZip P xs) ports rows now.0 later.0, now.1)

  pub dealt_each-of : (xs : List X) (rows : List (List (Outgoing B))) (boxes : List (PartsView B)) → All (AllZip P xs) rows → AllPorts xs boxes → AllPorts xs (dealt_each rows boxes)
  dealt_each-of xs [] boxes each all = all
  dealt_each-of xs (ports ∷ rows) boxes each all =
      dealt_each-of xs rows (dealt ports boxes) (All-tail (AllZip P xs) ports rows each) (dealt-of xs ports boxes (All-head (AllZip P xs) ports rows each) all)

-- PORTS AND INBOXES APART

module _ {B : Type 0} where
  -- the inbox of each box, where it came back, and the ports that came back
  abbrev pub inboxes_of : List (PartsView B) → List (Option (Incoming B))
  inboxes_of boxes = map (λ parts. parts.inbox) boxes

  abbrev pub ports_of : List (PartsView B) → List (List (Outgoing B))
  ports_of boxes = map (λ parts. parts.ports) boxes

  -- dealing leaves the inboxes as they are
  pub dealt-inboxes : (ports : List (Outgoing B)) (boxes : List (PartsView B)) → inboxes_of (dealt ports boxes) ≡ inboxes_of boxes
  dealt-inboxes [] boxes = refl
  dealt-inboxes (port ∷ ports) [] = refl
  dealt-inboxes (port ∷ ports) (parts ∷ boxes) = ap (λ (l : List (Option (Incoming B))). parts.inbox ∷ l) (dealt-inboxes ports boxes)

  pub dealt_each-inboxes : (rows : List (List (Outgoing B))) (boxes : List (PartsView B)) → inboxes_of (dealt_each rows boxes) ≡ inboxes_of boxes
  dealt_each-inboxes [] boxes = refl
  dealt_each-inboxes (ports ∷ rows) boxes = dealt_each-inboxes rows (dealt ports boxes) ∙ dealt-inboxes ports boxes

  pub dealt_each-count : (rows : List (List (Outgoing B))) (boxes : List (PartsView B)) → length (dealt_each rows boxes) ≡ length boxes
  dealt_each-count [] boxes = refl
  dealt_each-count (ports ∷ rows) boxes = dealt_each-count rows (dealt ports boxes) ∙ dealt-count ports boxes

  -- one row more
  pub dealt_each-more : (rows : List (List (Outgoing B))) (ports : List (Outgoing B)) (boxes : List (PartsView B))
      → dealt_each (rows ++ ports ∷ []) boxes ≡ dealt ports (dealt_each rows boxes)
  dealt_each-more [] ports boxes = refl
  dealt_each-more (row ∷ rows) ports boxes = dealt_each-more rows ports (dealt row boxes)

  -- and inboxes that come back leave the ports as they are
  pub with_inboxes-ports : (inboxes : List (Incoming B)) (boxes : List (PartsView B)) → ports_of (with_inboxes inboxes boxes) ≡ ports_of boxes
  with_inboxes-ports [] boxes = refl
  with_inboxes-ports (inbox ∷ inboxes) [] = refl
  with_inboxes-ports (inbox ∷ inboxes) (parts ∷ boxes) = ap (λ (l : List (List (Outgoing B))). parts.ports ∷ l) (with_inboxes-ports inboxes boxes)

  pub placed-ports : (place : ℕ) (inbox : Incoming B) (boxes : List (PartsView B)) → ports_of (placed place inbox boxes) ≡ ports_of boxes
  placed-ports place inbox [] = refl
  placed-ports zero inbox (parts ∷ boxes) = refl
  placed-ports (suc place) inbox (parts ∷ boxes) = ap (λ (l : List (List (Outgoing B))). parts.ports ∷ l) (placed-ports place inbox boxes)

  pub with_inboxes-count : (inboxes : List (Incoming B)) (boxes : List (PartsView B)) → length (with_inboxes inboxes boxes) ≡ length boxes
  with_inboxes-count [] boxes = refl
  with_inboxes-count (inbox ∷ inboxes) [] = refl
  with_inboxes-count (inbox ∷ inboxes) (parts ∷ boxes) = ap suc (with_inboxes-count inboxes boxes)

  pub placed-count : (place : ℕ) (inbox : Incoming B) (boxes : List (PartsView B)) → length (placed place inbox boxes) ≡ length boxes
  placed-count place inbox [] = refl
  placed-count zero inbox (parts ∷ boxes) = refl
  placed-count (suc place) inbox (parts ∷ boxes) = ap suc (placed-count place inbox boxes)

  -- where each inbox came back
  pub with_inboxes-all : (inboxes : List (Incoming B)) (boxes : List (PartsView B)) → length inboxes ≡ length boxes → inboxes_of (with_inboxes inboxes boxes) ≡ map Some inboxes
  with_inboxes-all [] [] count = refl
  with_inboxes-all [] (parts ∷ boxes) count = absurd (omega arith)
  with_inboxes-all (inbox ∷ inboxes) [] count = absurd (omega arith)
  with_inboxes-all (inbox ∷ inboxes) (parts ∷ boxes) count = ap (λ (l : List (Option (Incoming B))). Some inbox ∷ l) (with_inboxes-all inboxes boxes (omega arith))

  -- one inbox more
  pub with_inboxes-more : (inboxes : List (Incoming B)) (inbox : Incoming B) (boxes : List (PartsView B))
      → placed (length inboxes) inbox (with_inboxes inboxes boxes) ≡ with_inboxes (inboxes ++ inbox ∷ []) boxes
  with_inboxes-more [] inbox [] = refl
  with_inboxes-more [] inbox (parts ∷ boxes) = refl
  with_inboxes-more (first ∷ inboxes) inbox [] = refl
  with_inboxes-more (first ∷ inboxes) inbox (parts ∷ boxes) = ap (λ (l : List (PartsView B)). with_inbox first parts ∷ l) (with_inboxes-more inboxes inbox boxes)

  -- ONE BOX EACH

  -- the inbox of each box, where it came back, belongs to it
  abbrev pub AllInboxes : List (Box B) → List (Option (Incoming B)) → Type 0
  AllInboxes xs inboxes = AllZip (λ x one. (inbox : Incoming B) → one ≡ Some inbox → inbox.box ≡ x) xs inboxes

  pub inboxes-of : (xs : List (Box B)) (inboxes : List (Incoming B)) → map (λ inbox. inbox.box) inboxes ≡ xs → AllInboxes xs (map Some inboxes)
  inboxes-of [] [] are = tt
  inboxes-of [] (inbox ∷ inboxes) are = cc
  inboxes-of (x ∷ xs) [] are = cc
  inboxes-of (x ∷ xs) (inbox ∷ inboxes) are = ((λ one is. let it : inbox ≡ one = cc in let head : inbox.box ≡ x = cc in ap (λ (i : Incoming B). i.box) (sym it) ∙ head), inboxes-of xs inboxes cc)

  pub ports-of : (xs : List (Box B)) (ports : List (Outgoing B)) → map (λ port. port.box) ports ≡ xs → AllZip (λ x port. port.box ≡ x) xs ports
  ports-of [] [] are = tt
  ports-of [] (port ∷ ports) are = cc
  ports-of (x ∷ xs) [] are = cc
  ports-of (x ∷ xs) (port ∷ ports) are = (cc, ports-of xs ports cc)

  -- of boxes that are empty nothing came back
  pub empty-inboxes : (senders : ℕ) (xs : List (Box B)) (boxes : List (PartsView B)) → length xs ≡ length boxes → All (IsEmpty senders) boxes → AllInboxes xs (inboxes_of boxes)
  empty-inboxes senders [] [] count empty = tt
  empty-inboxes senders [] (parts ∷ boxes) count empty = absurd (omega arith)
  empty-inboxes senders (x ∷ xs) [] count empty = absurd (omega arith)
  empty-inboxes senders (x ∷ xs) (parts ∷ boxes) count empty =
      ((λ one is. let none = (All-head (IsEmpty senders) parts boxes empty).no_inbox in cc), empty-inboxes senders xs boxes (omega arith) (All-tail (IsEmpty senders) parts boxes empty))

  pub empty-ports : {X : Type 0} (P : X → Outgoing B → Type 0) (senders : ℕ) (xs : List X) (boxes : List (PartsView B)) → length xs ≡ length boxes → All (IsEmpty senders) boxes → AllPorts P xs boxes
  empty-ports P senders [] [] count empty = tt
  empty-ports P senders [] (parts ∷ boxes) count empty = absurd (omega arith)
  empty-ports P senders (x ∷ xs) [] count empty = absurd (omega arith)
  empty-ports P senders (x ∷ xs) (parts ∷ boxes) count empty = (
    subst (λ (l : List (Outgoing B)). All (P x) l) (sym (All-head (IsEmpty senders) parts boxes empty).no_ports) (All-nil (P x)),
    empty-ports P senders xs boxes (omega arith) (All-tail (IsEmpty senders) parts boxes empty),
  )

  -- one inbox more came back, of the box at its place
  pub placed-inboxes : (xs : List (Box B)) (place : ℕ) (inbox : Incoming B) (boxes : List (PartsView B)) → slice_get xs place ≡ Some inbox.box
      → AllInboxes xs (inboxes_of boxes) → AllInboxes xs (inboxes_of (placed place inbox boxes))
  placed-inboxes xs place inbox [] at all = all
  placed-inboxes [] place inbox (parts ∷ boxes) at all = absurd all
  placed-inboxes (x ∷ xs) zero inbox (parts ∷ boxes) at all = ((λ one is. cc), all.1)
  placed-inboxes (x ∷ xs) (suc place) inbox (parts ∷ boxes) at all = (all.0, placed-inboxes xs place inbox boxes at all.1)

  -- the ports that came back say what holds of all ports
  pub ports-same : {X : Type 0} (P : X → Outgoing B → Type 0) (xs : List X) (boxes after : List (PartsView B)) → ports_of after ≡ ports_of boxes → AllPorts P xs boxes → AllPorts P xs after
  ports-same P xs [] [] same all = all
  ports-same P xs [] (parts ∷ after) same all = cc
  ports-same P xs (parts ∷ boxes) [] same all = cc
  ports-same P [] (parts ∷ boxes) (parts2 ∷ after) same all = absurd all
  ports-same P (x ∷ xs) (parts ∷ boxes) (parts2 ∷ after) same all =
      let head : parts2.ports ≡ parts.ports = cc in
      let tail : ports_of after ≡ ports_of boxes = cc in
      (subst (λ (l : List (Outgoing B)). All (P x) l) (sym head) all.0, ports-same P xs boxes after tail all.1)

  -- inboxes and ports of one box each
  pub of-one-box : (xs : List (Box B)) (boxes : List (PartsView B)) → AllPorts (λ x port. port.box ≡ x) xs boxes → AllInboxes xs (inboxes_of boxes) → All AreOfOneBox boxes
  of-one-box xs [] ports inboxes = All-nil AreOfOneBox
  of-one-box [] (parts ∷ boxes) ports inboxes = absurd ports
  of-one-box (x ∷ xs) (parts ∷ boxes) ports inboxes =
      All-cons AreOfOneBox parts boxes
      (λ inbox is. All-weaker (λ (port : Outgoing B). port.box ≡ x) (λ (port : Outgoing B). port.box ≡ inbox.box) (λ port here. here ∙ sym (inboxes.0 inbox is)) parts.ports ports.0)
      (of-one-box xs boxes ports.1 inboxes.1)

  -- BOXES THAT SETTLED

  settled-one : (parts : PartsView B) (inbox : Incoming B) (box : SettledView B) → Settles parts box → parts.inbox ≡ Some inbox → ReceivesMore inbox (inbox_in box)
  settled-one parts inbox box settles is =
      let same : settles.inbox ≡ inbox = let both : Some settles.inbox ≡ Some inbox = sym settles.came ∙ is in cc in
      subst (λ (i : Incoming B). ReceivesMore i (inbox_in box)) same settles.received

  -- where the Bye of each port was received, nothing more is
  pub received-none : (inbox box : Incoming B) → HasEachBye inbox → ReceivesMore inbox box → box ≡ inbox
  received-none inbox box byes received =
      received.received ∙ ap (λ (l : List (Letter B)). incoming inbox.box inbox.ports (inbox.received ++ l)) (received.only_missing byes)
      ∙ ap (incoming inbox.box inbox.ports) (append-nil inbox.received)

  -- each box received all that its ports put
  pub settled-got : (boxes : List (PartsView B)) (settled : List (SettledView B)) → AllZip Settles boxes settled → AllPorts (λ box. GotAll (inbox_in box)) settled boxes
  settled-got [] [] all = tt
  settled-got [] (box ∷ settled) all = absurd all
  settled-got (parts ∷ boxes) [] all = absurd all
  settled-got (parts ∷ boxes) (box ∷ settled) all = (all.0.got, settled-got boxes settled all.1)

  -- and each is the box of its inbox, with the Byes that were left
  pub settled-came : (boxes : List (PartsView B)) (inboxes : List (Incoming B)) (settled : List (SettledView B)) → AllZip Settles boxes settled → inboxes_of boxes ≡ map Some inboxes
      → AllZip (λ inbox box. ReceivesMore inbox (inbox_in box)) inboxes settled
  settled-came [] [] [] all are = tt
  settled-came [] [] (box ∷ settled) all are = absurd all
  settled-came [] (inbox ∷ inboxes) settled all are = cc
  settled-came (parts ∷ boxes) inboxes [] all are = absurd all
  settled-came (parts ∷ boxes) [] (box ∷ settled) all are = cc
  settled-came (parts ∷ boxes) (inbox ∷ inboxes) (box ∷ settled) all are =
      let head : parts.inbox ≡ Some inbox = cc in
      let tail : inboxes_of boxes ≡ map Some inboxes = cc in
      (settled-one parts inbox box all.0 head, settled-came boxes inboxes settled all.1 tail)

  pub settled-at : (boxes : List (PartsView B)) (settled : List (SettledView B)) (place : ℕ) (inbox : Incoming B) → AllZip Settles boxes settled
      → slice_get (inboxes_of boxes) place ≡ Some (Some inbox) → (box : SettledView B) × (slice_get settled place ≡ Some box) × ReceivesMore inbox (inbox_in box)
  settled-at [] settled place inbox all at = cc
  settled-at (parts ∷ boxes) [] place inbox all at = absurd all
  settled-at (parts ∷ boxes) (box ∷ settled) zero inbox all at = let head : parts.inbox ≡ Some inbox = cc in (box, refl, settled-one parts inbox box all.0 head)
  settled-at (parts ∷ boxes) (box ∷ settled) (suc place) inbox all at = settled-at boxes settled place inbox all.1 at

  pub settled-empty : (boxes : List (PartsView B)) (settled : List (SettledView B)) → AllZip Settles boxes settled → All IsEmptied settled
  settled-empty [] [] all = All-nil IsEmptied
  settled-empty [] (box ∷ settled) all = absurd all
  settled-empty (parts ∷ boxes) [] all = absurd all
  settled-empty (parts ∷ boxes) (box ∷ settled) all = All-cons IsEmptied box settled all.0.emptied (settled-empty boxes settled all.1)
