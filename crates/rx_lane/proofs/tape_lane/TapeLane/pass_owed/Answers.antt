use Rattle.std.proofs.Common.{◌<◌, ap, arith}
use Rattle.rx_lane.specs.TapeLanes.{TapeLaneState, lane_on}
use Rattle.rx_lane.proofs.Steps.{is_open, offer_now}
use Rattle.rx_lane.proofs.Followed.{shared_open, stands_on}
use Rattle.rx_lane.proofs.tape_lane.TapeLane.pass_owed.Goals as goal

pub returns-clause-gives : goal.returns-clause-gives
returns-clause-gives c = λ items item s st.
    let owed : 0 < c.self.inside.owed = omega (arith, c.requires.owed, ap (λ (v : TapeLaneState). v.owing) c.self.view_is) in
    (offer_now _ item owed s (stands_on items c.self.view_is st) (is_open (lane_on items c.args.self.now) s (shared_open c.args.self.now c.self.inside.policy c.requires.open (ap (λ (v : TapeLaneState). v.policy) c.self.view_is) c.self.invariant) st)).gives

pub returns-clause-stands : goal.returns-clause-stands
returns-clause-stands c = λ items item s st.
    let owed : 0 < c.self.inside.owed = omega (arith, c.requires.owed, ap (λ (v : TapeLaneState). v.owing) c.self.view_is) in
    (offer_now _ item owed s (stands_on items c.self.view_is st) (is_open (lane_on items c.args.self.now) s (shared_open c.args.self.now c.self.inside.policy c.requires.open (ap (λ (v : TapeLaneState). v.policy) c.self.view_is) c.self.invariant) st)).stands
