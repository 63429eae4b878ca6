-- What stands once all threads of a server have ended well, and before its boxes settle (this project's own rule).
use Rattle.std.specs.Prelude.{◌≡◌, ◌++◌, ◌<◌, ◌≤◌, ℕ, List, [], length, map, Some, slice_get, vec_len, vec_capacity}
use Rattle.std.specs.List.{All}
use Rattle.rx_mailbox.specs.Boxes.{Box, HasEachBye, Outgoing}
use Rattle.rx_pump.specs.declared.call_desk.ended_desk.EndedDesk.{EndedDesk}
use Rattle.rx_pump.specs.Pumps.{port_place}
use Rattle.rx_server.specs.declared.close.rooms.Rooms.{Rooms}
use Rattle.rx_server.specs.Returning.{AreEmpty}
use Rattle.rx_server.specs.Rooms.{HoldBoxes}
use Rattle.rx_server.specs.Wirings.{Wiring}

-- the ports are one of each of these boxes, in their order
abbrev pub AreRow : {B : Type 0} → List (Box B) → List (Outgoing B) → Type 0
AreRow boxes ports = map (λ port. port.box) ports ≡ boxes

module _ {S : Type 0} where
  -- what a desk left has a port of each subject's box, all of its number, and the inbox of the replies of that number
  pub record HasItsBoxes (w : Wiring S) (end : EndedDesk S) : Type 0 where
    pub number : ℕ
    pub ports : map port_place end.ports.items ≡ map (λ box. (box, number)) w.subjects
    pub inbox : slice_get w.replies number ≡ Some end.inbox.box

module _ {S Rest : Type 0} where
  -- what pumps, drainers, the leave ports and the desks left is of the boxes of the server, and each pump and each drainer has
  -- received the Bye of each of its ports; nothing has come back to the boxes yet
  pub record HasLeft (w : Wiring S) (rooms : Rooms S Rest) (ended : List (EndedDesk S)) : Type 0 where
    pub some : 0 < length w.subjects
    pub pumps : map (λ end. end.inbox.box) rooms.pumps.items ≡ w.subjects
    pub pumps_done : All (λ end. HasEachBye end.inbox) rooms.pumps.items
    pub to_drainers : All (λ end. AreRow w.drainers end.drainers.items) rooms.pumps.items
    pub to_desks : All (λ end. AreRow w.replies end.replies.items) rooms.pumps.items
    pub drainers : map (λ end. end.inbox.box) rooms.drainers.items ≡ w.drainers
    pub drainers_done : All (λ end. HasEachBye end.inbox) rooms.drainers.items
    pub to_subjects : All (λ end. AreRow w.subjects end.ports.items) rooms.drainers.items
    pub leaves : AreRow w.drainers rooms.leaves.items
    pub desks : All (HasItsBoxes w) (ended ++ rooms.desks.items)
    pub nothing_came : AreEmpty (length w.subjects) (length w.drainers) (length w.replies) rooms.returned
    pub none_settled : HoldBoxes (length w.subjects) (length w.drainers) (length w.replies) rooms.settled
    pub no_subjects : rooms.subjects.items ≡ []
    pub none_put_away : rooms.put_away.items ≡ []
    pub subjects_fit : vec_len rooms.pumps ≤ vec_capacity rooms.subjects
    pub put_away_fits : vec_len rooms.drainers ≤ vec_capacity rooms.put_away
