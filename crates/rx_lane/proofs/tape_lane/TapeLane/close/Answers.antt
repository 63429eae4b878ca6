-- The cursor that is released is the one of the lane.
use Rattle.std.proofs.Common.{None, subst}
use Rattle.rx_tape.specs.Tapes.{MovesOn}
use Rattle.rx_lane.specs.TapeLanes.{TapeLaneState}
use Rattle.rx_lane.proofs.tape_lane.TapeLane.close.Goals as goal

pub returns : goal.returns
returns c = subst (λ (v : TapeLaneState). MovesOn c.args.tape.now c.release.new.self v.cursor None) c.self.view_is c.release.ensures
