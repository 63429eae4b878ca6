use Rattle.std.proofs.Common.{inl}
use Rattle.rx_program.proofs.program.run_audit_at.Goals as goal

pub returns-in-Ok : goal.returns-in-Ok
returns-in-Ok g c = inl (c.in-Ok.config, c.in-Ok.ensures, (c.run_audit.result, c.done_of.ensures, c.run_audit.ensures))
