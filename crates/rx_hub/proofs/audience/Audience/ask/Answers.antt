-- Items leave the tape only for an observer that is alone, and where none is kept for joiners.
use Rattle.std.proofs.Common.{arith}
use Rattle.std.proofs.lemmas.Grind.{common_steps}
use Rattle.rx_hub.proofs.audience.Audience.ask.Goals as goal

pub ask_alone-requires-clause-alone : goal.ask_alone-requires-clause-alone
ask_alone-requires-clause-alone c = grind (arith, common_steps)

pub returns-then-len-eq1-clause-kept : goal.returns-then-len-eq1-clause-kept
returns-then-len-eq1-clause-kept c = grind (arith, common_steps)
