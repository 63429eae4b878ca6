-- Rows of ports, dealt to their boxes, and inboxes that came back.
use Rattle.std.proofs.Common.{◌≡◌, refl, ap, ℕ, zero, suc, ◌<◌, List, [], ◌∷◌, ◌++◌, length, get_or, slice_get, slice_set, sym, None, Some, arith}
use Rattle.rx_mailbox.specs.Boxes.{Incoming, Outgoing}
use Rattle.rx_mailbox.specs.Parts.{LacksInbox, PartsView, dealt, placed, with_inbox, with_port}

module _ {B : Type 0} where
  -- each box stays at its place
  pub dealt-count : (ports : List (Outgoing B)) (boxes : List (PartsView B)) → length (dealt ports boxes) ≡ length boxes
  dealt-count [] boxes = refl
  dealt-count (port ∷ ports) [] = refl
  dealt-count (port ∷ ports) (parts ∷ boxes) = ap suc (dealt-count ports boxes)

  -- a row that is shorter leaves the boxes behind it as they are
  pub dealt-behind : (ports : List (Outgoing B)) (boxes : List (PartsView B)) (d : PartsView B)
      → get_or (dealt ports boxes) (length ports) d ≡ get_or boxes (length ports) d
  dealt-behind [] boxes d = refl
  dealt-behind (port ∷ ports) [] d = refl
  dealt-behind (port ∷ ports) (parts ∷ boxes) d = dealt-behind ports boxes d

  -- one port more is dealt to the box of its place
  pub dealt-more : (ports : List (Outgoing B)) (port : Outgoing B) (boxes : List (PartsView B)) (d : PartsView B) → length ports < length boxes
      → slice_set (dealt ports boxes) (length ports) (with_port port (get_or boxes (length ports) d)) ≡ dealt (ports ++ port ∷ []) boxes
  dealt-more [] port [] d within = absurd (omega arith)
  dealt-more [] port (parts ∷ boxes) d within = refl
  dealt-more (first ∷ ports) port [] d within = absurd (omega arith)
  dealt-more (first ∷ ports) port (parts ∷ boxes) d within =
      ap (λ (l : List (PartsView B)). with_port first parts ∷ l) (dealt-more ports port boxes d (omega arith))

  -- an inbox that came back is put at its place
  pub placed-at : (boxes : List (PartsView B)) (place : ℕ) (inbox : Incoming B) (parts : PartsView B) → place < length boxes
      → parts ≡ get_or boxes place parts → slice_set boxes place (with_inbox inbox parts) ≡ placed place inbox boxes
  placed-at [] place inbox parts within is = absurd (omega arith)
  placed-at (first ∷ boxes) zero inbox parts within is = ap (λ (p : PartsView B). with_inbox inbox p ∷ boxes) is
  placed-at (first ∷ boxes) (suc place) inbox parts within is =
      ap (λ (l : List (PartsView B)). first ∷ l) (placed-at boxes place inbox parts (omega arith) is)

  -- where the parts at a place have no inbox
  pub lacks : (boxes : List (PartsView B)) (place : ℕ) (parts : PartsView B) → place < length boxes
      → parts ≡ get_or boxes place parts → parts.inbox ≡ None → LacksInbox place boxes
  lacks [] place parts within is none = absurd (omega arith)
  lacks (first ∷ boxes) zero parts within is none = λ one same. let it : first ≡ one = cc in cc
  lacks (first ∷ boxes) (suc place) parts within is none = lacks boxes place parts (omega arith) is none

  -- the parts at a place
  pub parts-at : (boxes : List (PartsView B)) (place : ℕ) (parts : PartsView B) → place < length boxes
      → parts ≡ get_or boxes place parts → slice_get boxes place ≡ Some parts
  parts-at [] place parts within is = absurd (omega arith)
  parts-at (first ∷ boxes) zero parts within is = ap Some (sym is)
  parts-at (first ∷ boxes) (suc place) parts within is = parts-at boxes place parts (omega arith) is
