-- Room for the ports of boxes, and the inboxes that are missing.
use Rattle.std.proofs.Common.{◌≡◌, ◌∙◌, refl, sym, ap, ℕ, zero, suc, ◌+◌, ◌<◌, List, [], ◌∷◌, length, length-append, None, arith}
use Rattle.std.proofs.lemmas.List.Elements.{All-cons, All-head, All-nil, All-tail, All-weaker}
use Rattle.std.specs.List.{All}
use Rattle.rx_mailbox.specs.Boxes.{Incoming, Outgoing}
use Rattle.rx_mailbox.specs.Parts.{HasRoom, IsEmpty, IsFullAt, LacksInbox, PartsView, dealt, dealt_each, with_inboxes, lacking, missing, placed, with_inbox, with_port}

module _ {B : Type 0} where
  -- boxes to which nothing came back have room for all their ports
  pub empty-room : (senders : ℕ) (boxes : List (PartsView B)) → All (IsEmpty senders) boxes → All (HasRoom senders) boxes
  empty-room senders boxes empty =
      All-weaker (IsEmpty senders) (HasRoom senders) (λ parts is. omega (arith, ap length is.no_ports, is.fits)) boxes empty

  -- with room for one port more none is full
  pub not-full : (more place : ℕ) (boxes : List (PartsView B)) → All (HasRoom (suc more)) boxes → ¬ IsFullAt place boxes
  not-full more place [] room full = let at = full.1 in cc
  not-full more zero (parts ∷ boxes) room full =
      let same : parts ≡ full.0 = let at = full.1 in cc in
      let here = All-head (HasRoom (suc more)) parts boxes room in
      let is : length parts.ports ≡ parts.room = ap (λ (p : PartsView B). length p.ports) same ∙ full.2 ∙ sym (ap (λ (p : PartsView B). p.room) same) in
      omega (arith, here, is)
  not-full more (suc place) (parts ∷ boxes) room full = not-full more place boxes (All-tail (HasRoom (suc more)) parts boxes room) full

  -- a row that was dealt takes the room of one
  pub dealt-room : (more : ℕ) (ports : List (Outgoing B)) (boxes : List (PartsView B)) → All (HasRoom (suc more)) boxes → All (HasRoom more) (dealt ports boxes)
  dealt-room more [] boxes room = All-weaker (HasRoom (suc more)) (HasRoom more) (λ parts has. omega (arith, has)) boxes room
  dealt-room more (port ∷ ports) [] room = All-nil (HasRoom more)
  dealt-room more (port ∷ ports) (parts ∷ boxes) room =
      let here = All-head (HasRoom (suc more)) parts boxes room in
      All-cons (HasRoom more) (with_port port parts) (dealt ports boxes) (omega (arith, here, length-append parts.ports (port ∷ [])))
      (dealt-room more ports boxes (All-tail (HasRoom (suc more)) parts boxes room))

  pub dealt_each-room : (more : ℕ) (rows : List (List (Outgoing B))) (boxes : List (PartsView B)) → All (HasRoom (length rows + more)) boxes
      → All (HasRoom more) (dealt_each rows boxes)
  dealt_each-room more [] boxes room =
      All-weaker (HasRoom (length {A = List (Outgoing B)} [] + more)) (HasRoom more) (λ parts has. omega (arith, has)) boxes room
  dealt_each-room more (ports ∷ rows) boxes room =
      dealt_each-room more rows (dealt ports boxes)
      (dealt-room (length rows + more) ports boxes
      (All-weaker (HasRoom (length (ports ∷ rows) + more)) (HasRoom (suc (length rows + more))) (λ parts has. omega (arith, has)) boxes room))

  -- inboxes take none
  pub with_inboxes-room : (more : ℕ) (inboxes : List (Incoming B)) (boxes : List (PartsView B)) → All (HasRoom more) boxes → All (HasRoom more) (with_inboxes inboxes boxes)
  with_inboxes-room more [] boxes room = room
  with_inboxes-room more (inbox ∷ inboxes) [] room = All-nil (HasRoom more)
  with_inboxes-room more (inbox ∷ inboxes) (parts ∷ boxes) room =
      All-cons (HasRoom more) (with_inbox inbox parts) (with_inboxes inboxes boxes) (All-head (HasRoom more) parts boxes room)
      (with_inboxes-room more inboxes boxes (All-tail (HasRoom more) parts boxes room))

  -- INBOXES THAT ARE MISSING

  pub empty-missing : (senders : ℕ) (boxes : List (PartsView B)) → All (IsEmpty senders) boxes → missing boxes ≡ length boxes
  empty-missing senders [] empty = refl
  empty-missing senders (parts ∷ boxes) empty =
      let none = ap lacking (All-head (IsEmpty senders) parts boxes empty).no_inbox in
      let rest = empty-missing senders boxes (All-tail (IsEmpty senders) parts boxes empty) in
      omega (arith, none, rest)

  pub dealt-missing : (ports : List (Outgoing B)) (boxes : List (PartsView B)) → missing (dealt ports boxes) ≡ missing boxes
  dealt-missing [] boxes = refl
  dealt-missing (port ∷ ports) [] = refl
  dealt-missing (port ∷ ports) (parts ∷ boxes) = ap (λ n. lacking parts.inbox + n) (dealt-missing ports boxes)

  pub dealt_each-missing : (rows : List (List (Outgoing B))) (boxes : List (PartsView B)) → missing (dealt_each rows boxes) ≡ missing boxes
  dealt_each-missing [] boxes = refl
  dealt_each-missing (ports ∷ rows) boxes = dealt_each-missing rows (dealt ports boxes) ∙ dealt-missing ports boxes

  -- one that came back is missing no more
  pub placed-missing : (place : ℕ) (inbox : Incoming B) (boxes : List (PartsView B)) → place < length boxes → LacksInbox place boxes
      → missing boxes ≡ suc (missing (placed place inbox boxes))
  placed-missing place inbox [] within lacks = absurd (omega arith)
  placed-missing zero inbox (parts ∷ boxes) within lacks = let none = ap lacking (lacks parts refl) in omega (arith, none)
  placed-missing (suc place) inbox (parts ∷ boxes) within lacks =
      let rest = placed-missing place inbox boxes (omega arith) lacks in omega (arith, rest)

  -- of boxes to which nothing came back each lacks its inbox
  pub empty-lacks : (senders place : ℕ) (boxes : List (PartsView B)) → All (IsEmpty senders) boxes → LacksInbox place boxes
  empty-lacks senders place [] empty = λ parts at. cc
  empty-lacks senders zero (parts ∷ boxes) empty = λ one at. let same : parts ≡ one = cc in ap (λ (p : PartsView B). p.inbox) (sym same) ∙ (All-head (IsEmpty senders) parts boxes empty).no_inbox
  empty-lacks senders (suc place) (parts ∷ boxes) empty = empty-lacks senders place boxes (All-tail (IsEmpty senders) parts boxes empty)

  -- boxes that all lack it still do once ports were dealt
  pub dealt-none : (ports : List (Outgoing B)) (boxes : List (PartsView B)) → All (λ parts. parts.inbox ≡ None) boxes → All (λ parts. parts.inbox ≡ None) (dealt ports boxes)
  dealt-none [] boxes none = none
  dealt-none (port ∷ ports) [] none = All-nil (λ (parts : PartsView B). parts.inbox ≡ None)
  dealt-none (port ∷ ports) (parts ∷ boxes) none =
      let P = λ (parts : PartsView B). parts.inbox ≡ None in
      All-cons P (with_port port parts) (dealt ports boxes) (All-head P parts boxes none) (dealt-none ports boxes (All-tail P parts boxes none))

  pub dealt_each-none : (rows : List (List (Outgoing B))) (boxes : List (PartsView B)) → All (λ parts. parts.inbox ≡ None) boxes → All (λ parts. parts.inbox ≡ None) (dealt_each rows boxes)
  dealt_each-none [] boxes none = none
  dealt_each-none (ports ∷ rows) boxes none = dealt_each-none rows (dealt ports boxes) (dealt-none ports boxes none)

  -- behind those that came back the next one lacks its inbox
  pub with_inboxes-lacks : (inboxes : List (Incoming B)) (boxes : List (PartsView B)) → All (λ parts. parts.inbox ≡ None) boxes → LacksInbox (length inboxes) (with_inboxes inboxes boxes)
  with_inboxes-lacks [] [] none = λ parts at. cc
  with_inboxes-lacks [] (parts ∷ boxes) none =
      λ one at.
      let same : parts ≡ one = cc in
      ap (λ (p : PartsView B). p.inbox) (sym same) ∙ All-head (λ (parts : PartsView B). parts.inbox ≡ None) parts boxes none
  with_inboxes-lacks (inbox ∷ inboxes) [] none = λ parts at. cc
  with_inboxes-lacks (inbox ∷ inboxes) (parts ∷ boxes) none = with_inboxes-lacks inboxes boxes (All-tail (λ (parts : PartsView B). parts.inbox ≡ None) parts boxes none)

  -- one that came back leaves the others as they are
  pub placed-lacks : (place other : ℕ) (inbox : Incoming B) (boxes : List (PartsView B)) → ¬ (place ≡ other) → LacksInbox other boxes → LacksInbox other (placed place inbox boxes)
  placed-lacks place other inbox [] differ lacks = lacks
  placed-lacks zero zero inbox (parts ∷ boxes) differ lacks = absurd (differ refl)
  placed-lacks zero (suc other) inbox (parts ∷ boxes) differ lacks = lacks
  placed-lacks (suc place) zero inbox (parts ∷ boxes) differ lacks = lacks
  placed-lacks (suc place) (suc other) inbox (parts ∷ boxes) differ lacks = placed-lacks place other inbox boxes (λ same. differ (ap suc same)) lacks

  -- one that lacks it does still once ports were dealt
  dealt-lacks : (place : ℕ) (ports : List (Outgoing B)) (boxes : List (PartsView B)) → LacksInbox place boxes → LacksInbox place (dealt ports boxes)
  dealt-lacks place [] boxes lacks = lacks
  dealt-lacks place (port ∷ ports) [] lacks = λ parts at. cc
  dealt-lacks zero (port ∷ ports) (parts ∷ boxes) lacks =
      λ one at. let same : with_port port parts ≡ one = cc in ap (λ (p : PartsView B). p.inbox) (sym same) ∙ lacks parts refl
  dealt-lacks (suc place) (port ∷ ports) (parts ∷ boxes) lacks = dealt-lacks place ports boxes lacks

  pub dealt_each-lacks : (place : ℕ) (rows : List (List (Outgoing B))) (boxes : List (PartsView B)) → LacksInbox place boxes → LacksInbox place (dealt_each rows boxes)
  dealt_each-lacks place [] boxes lacks = lacks
  dealt_each-lacks place (ports ∷ rows) boxes lacks = dealt_each-lacks place rows (dealt ports boxes) (dealt-lacks place ports boxes lacks)
