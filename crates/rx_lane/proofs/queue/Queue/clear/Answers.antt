-- No item is left in a queue that was cleared.
use Rattle.std.proofs.Common.{refl}
use Rattle.rx_lane.proofs.queue.Queue.clear.Goals as goal

pub returns-in-Growing-clause-items : goal.returns-in-Growing-clause-items
returns-in-Growing-clause-items c = search refl
