-- It ends where the inbox says that the Bye of each port came.
use Rattle.std.proofs.Common.{rules}
use Rattle.rx_drain.proofs.drainer.Drainer.take_all.Goals as goal

pub returns-then-is_over-clause-each_bye : goal.returns-then-is_over-clause-each_bye
returns-then-is_over-clause-each_bye g c = search rules
