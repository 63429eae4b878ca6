-- The boxes of a server before their ports are handed out, and room for the parts that are made of them (this project's own
-- rule).
use Rattle.std.specs.Prelude.{◌≡◌, ◌+◌, ◌≤◌, [], length, vec_capacity}
use Rattle.std.specs.Vec.Iter.{into_iter_items}
use Rattle.rx_config.specs.declared.config.Config.{Config}
use Rattle.rx_server.specs.declared.wired.Boxes.{Boxes}
use Rattle.rx_server.specs.declared.wired.Wired.{Wired}
use Rattle.rx_server.specs.Wirings.{AreOpened, Wiring, desk_count, drainer_capacity}

module _ {S : Type 0} where
  -- the boxes that a configuration asks for, with all their ports: to a subject send the desks and the drainers, to a drainer
  -- the pumps and the one that tells it to leave, and to a desk the pumps
  pub record AreOpenFor (config : Config) (w : Wiring S) (boxes : Boxes S) : Type 0 where
    pub subjects : AreOpened (length config.subjects.items) 64 (desk_count config + config.drainers) w.subjects (into_iter_items boxes.subjects.inboxes) boxes.subjects.rows.items
    pub drainers : AreOpened config.drainers (drainer_capacity config) (length config.subjects.items + 1) w.drainers (into_iter_items boxes.drainers.inboxes) boxes.drainers.rows.items
    pub replies : AreOpened (desk_count config) (length config.subjects.items) (length config.subjects.items) w.replies (into_iter_items boxes.replies.inboxes) boxes.replies.rows.items

module _ {S Rest : Type 0} where
  -- no part was made yet, and there is room for as many as a configuration asks for
  pub record IsEmptyFor (config : Config) (wired : Wired S Rest) : Type 0 where
    pub no_pumps : wired.pumps.items ≡ []
    pub no_drainers : wired.drainers.items ≡ []
    pub no_leaves : wired.leaves.items ≡ []
    pub no_desks : wired.desks.items ≡ []
    pub pumps_fit : length config.subjects.items ≤ vec_capacity wired.pumps
    pub drainers_fit : config.drainers ≤ vec_capacity wired.drainers
    pub leaves_fit : config.drainers ≤ vec_capacity wired.leaves
    pub desks_fit : desk_count config ≤ vec_capacity wired.desks
