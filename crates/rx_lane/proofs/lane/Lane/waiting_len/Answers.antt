-- As many items wait as the queue has, and so as the signals leave waiting.
use Rattle.std.proofs.Common.{length, ap, ◌∙◌}
use Rattle.rx_lane.specs.Lanes.{LaneView}
use Rattle.rx_lane.proofs.lane.Lane.waiting_len.Goals as goal

pub returns-clause-state : goal.returns-clause-state
returns-clause-state c = c.len.ensures.len ∙ ap (λ (v : LaneView). length v.state.items) c.self.view_is

pub returns-clause-waiting : goal.returns-clause-waiting
returns-clause-waiting c = λ s st. c.len.ensures.len ∙ ap (λ (v : LaneView). length v.state.items) c.self.view_is ∙ ap length st.items
