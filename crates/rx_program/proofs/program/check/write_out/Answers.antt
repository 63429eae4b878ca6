use Rattle.rx_program.proofs.Writes.{Writes-kept}
use Rattle.rx_program.proofs.program.check.write_out.Goals as goal

pub returns-in-Ok-clause-written : goal.returns-in-Ok-clause-written
returns-in-Ok-clause-written g c = Writes-kept c.flushed.result _ _ _ _ c.in-Ok.ensures c.flushed.ensures.kept
