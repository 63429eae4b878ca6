use Rattle.std.proofs.Common.{◌<◌, ap, arith}
use Rattle.rx_lane.specs.Lanes.{LaneView}
use Rattle.rx_lane.proofs.Steps.{stands_as, is_open, offer_now}
use Rattle.rx_lane.proofs.lane.Lane.pass.Goals as goal

pub returns-clause-gives : goal.returns-clause-gives
returns-clause-gives c = λ item s st.
    let owed : 0 < c.self.inside.owed = omega (arith, c.requires.owed, ap (λ (v : LaneView). v.state.owing) c.self.view_is) in
    (offer_now _ item owed s (stands_as c.self.view_is st) (is_open c.args.self.now.state s c.requires.open st)).gives

pub returns-clause-stands : goal.returns-clause-stands
returns-clause-stands c = λ item s st.
    let owed : 0 < c.self.inside.owed = omega (arith, c.requires.owed, ap (λ (v : LaneView). v.state.owing) c.self.view_is) in
    (offer_now _ item owed s (stands_as c.self.view_is st) (is_open c.args.self.now.state s c.requires.open st)).stands
