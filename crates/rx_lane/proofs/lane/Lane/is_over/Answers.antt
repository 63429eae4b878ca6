-- A lane is over once it ended and no terminal waits.
use Rattle.std.proofs.Common.{rules}
use Rattle.rx_lane.proofs.lane.Lane.is_over.Goals as goal

pub returns-then-self : goal.returns-then-self
returns-then-self c = search rules

pub returns-else-self : goal.returns-else-self
returns-else-self c = search rules
