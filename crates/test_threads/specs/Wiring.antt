-- Which boxes the ports of a test belong to.
use Rattle.std.specs.Prelude.{◌≡◌, List, [], map}
use Rattle.rx_mailbox.specs.Boxes.{Box, Outgoing, Incoming, incoming, outgoing}

-- the box of each port
abbrev pub boxes_of : {X : Type 0} → List (Outgoing X) → List (Box X)
boxes_of ports = map (λ port. port.box) ports

-- a new box with one port
pub record IsOne {X : Type 0} (inbox : Incoming X) (port : Outgoing X) : Type 0 where
  pub inbox_is : inbox ≡ incoming inbox.box 1 []
  pub port_is : port ≡ outgoing inbox.box 0 []

-- a new box with two ports
pub record IsTwo {X : Type 0} (inbox : Incoming X) (first second : Outgoing X) : Type 0 where
  pub inbox_is : inbox ≡ incoming inbox.box 2 []
  pub first_is : first ≡ outgoing inbox.box 0 []
  pub second_is : second ≡ outgoing inbox.box 1 []
