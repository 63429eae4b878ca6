use Rattle.std.proofs.Common.{◌+◌, sym, subst}
use Rattle.rx_tape.specs.Tapes.{TapeState}
use Rattle.rx_lane.specs.TapeLanes.{StandsBack}
use Rattle.rx_lane.proofs.Shared.{pushed_on}
use Rattle.test_core.proofs.tape_lanes.Tried.offered.Goals as goal

pub offer-requires-clause-stands : goal.offer-requires-clause-stands
offer-requires-clause-stands c =
    let s = c.args.self.now in
    subst (λ (t : TapeState). StandsBack t s.lane.cursor (s.lane.back + 1)) (sym c.in_ok-push.ensures.ok)
    (pushed_on s.tape c.args.item s.lane.cursor s.lane.back s.stands)
