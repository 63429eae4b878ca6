-- Ports keep their boxes.
use Rattle.std.proofs.Common.{◌≡◌, ◌∙◌, sym, refl, ap, List, [], ◌∷◌, map}
use Rattle.rx_mailbox.specs.Boxes.{Outgoing}
use Rattle.rx_pump.specs.Pumps.{AreSame, port_place}
use Rattle.rx_mailbox.specs.PortRows.{with_bye}
use Rattle.test_threads.specs.Wiring.{boxes_of}

module _ {X : Type 0} where
  boxes-places : (ports : List (Outgoing X)) → boxes_of ports ≡ map (λ place. place.0) (map port_place ports)
  boxes-places [] = refl
  boxes-places (port ∷ ports) = ap (λ boxes. port.box ∷ boxes) (boxes-places ports)

  -- the same ports are of the same boxes
  pub boxes-same : (before after : List (Outgoing X)) → AreSame before after → boxes_of after ≡ boxes_of before
  boxes-same before after same = boxes-places after ∙ ap (map (λ place. place.0)) same ∙ sym (boxes-places before)

  -- a Bye leaves the box
  pub boxes-byes : (ports : List (Outgoing X)) → boxes_of (map with_bye ports) ≡ boxes_of ports
  boxes-byes [] = refl
  boxes-byes (port ∷ ports) = ap (λ boxes. port.box ∷ boxes) (boxes-byes ports)
