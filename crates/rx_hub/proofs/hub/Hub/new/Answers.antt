-- Limits that passed each test are in range.
use Rattle.std.proofs.Common.{arith}
use Rattle.std.proofs.lemmas.Grind.{common_steps}
use Rattle.rx_hub.proofs.hub.Hub.new.Goals as goal

pub returns-in-Ok-clause-bad_limits : goal.returns-in-Ok-clause-bad_limits
returns-in-Ok-clause-bad_limits c = grind (arith, common_steps)

pub returns-in-Err-clause-bad_limits : goal.returns-in-Err-clause-bad_limits
returns-in-Err-clause-bad_limits c = grind (arith, common_steps)
