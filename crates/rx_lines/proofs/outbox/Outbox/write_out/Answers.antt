-- All that is held is written.
use Rattle.std.proofs.Common.{rules}
use Rattle.rx_lines.proofs.outbox.Outbox.write_out.Goals as goal

pub returns-clause-written : goal.returns-clause-written
returns-clause-written g c = search rules
