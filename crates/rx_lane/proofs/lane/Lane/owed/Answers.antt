-- What is owed is what contracts see of it, and so what the signals leave owed.
use Rattle.std.proofs.Common.{ap, ◌∙◌}
use Rattle.rx_lane.specs.Lanes.{LaneView}
use Rattle.rx_lane.proofs.lane.Lane.owed.Goals as goal

pub returns-clause-state : goal.returns-clause-state
returns-clause-state c = ap (λ (v : LaneView). v.state.owing) c.self.view_is

pub returns-clause-owed : goal.returns-clause-owed
returns-clause-owed c = λ s st. ap (λ (v : LaneView). v.state.owing) c.self.view_is ∙ st.owing
