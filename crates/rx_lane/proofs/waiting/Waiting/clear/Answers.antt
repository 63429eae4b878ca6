-- Nothing of the tape waits any more.
use Rattle.std.proofs.Common.{refl}
use Rattle.rx_lane.proofs.waiting.Waiting.clear.Goals as goal

pub returns-clause-back : goal.returns-clause-back
returns-clause-back c = refl
