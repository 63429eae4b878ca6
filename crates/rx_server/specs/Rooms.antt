-- Room that a server keeps for its close (this project's own rule).
use Rattle.std.specs.Prelude.{◌≡◌, ◌+◌, ◌≤◌, ℕ, [], vec_len, vec_capacity}
use Rattle.rx_server.specs.declared.close.rooms.Rooms.{Rooms}
use Rattle.rx_server.specs.declared.close.settled_boxes.SettledBoxes.{SettledBoxes}
use Rattle.rx_server.specs.Returning.{AreEmpty}

module _ {S : Type 0} where
  -- no box has settled yet, and there is room for so many
  pub record HoldBoxes (subjects drainers replies : ℕ) (boxes : SettledBoxes S) : Type 0 where
    pub no_subjects : boxes.subjects.items ≡ []
    pub no_drainers : boxes.drainers.items ≡ []
    pub no_replies : boxes.replies.items ≡ []
    pub subjects_fit : subjects ≤ vec_capacity boxes.subjects
    pub drainers_fit : drainers ≤ vec_capacity boxes.drainers
    pub replies_fit : replies ≤ vec_capacity boxes.replies

module _ {S Rest : Type 0} where
  -- beside desks nothing is left yet, and there is room for what so many pumps, drainers and desks leave, of which so many are
  -- still to end
  pub record AreRooms (pumps drainers desks to_end : ℕ) (rooms : Rooms S Rest) : Type 0 where
    pub no_leaves : rooms.leaves.items ≡ []
    pub no_pumps : rooms.pumps.items ≡ []
    pub no_drainers : rooms.drainers.items ≡ []
    pub no_subjects : rooms.subjects.items ≡ []
    pub none_put_away : rooms.put_away.items ≡ []
    pub desks_fit : vec_len rooms.desks + to_end ≤ vec_capacity rooms.desks
    pub leaves_fit : drainers ≤ vec_capacity rooms.leaves
    pub pumps_fit : pumps ≤ vec_capacity rooms.pumps
    pub drainers_fit : drainers ≤ vec_capacity rooms.drainers
    pub subjects_fit : pumps ≤ vec_capacity rooms.subjects
    pub put_away_fits : drainers ≤ vec_capacity rooms.put_away
    pub nothing_came : AreEmpty pumps drainers desks rooms.returned
    pub none_settled : HoldBoxes pumps drainers desks rooms.settled

  -- beside what pumps and drainers left the rooms are as they were
  pub record KeepsRooms (before after : Rooms S Rest) : Type 0 where
    pub desks : after.desks ≡ before.desks
    pub leaves : after.leaves ≡ before.leaves
    pub subjects : after.subjects ≡ before.subjects
    pub put_away : after.put_away ≡ before.put_away
    pub returned : after.returned ≡ before.returned
    pub settled : after.settled ≡ before.settled
