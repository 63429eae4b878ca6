use Rattle.std.proofs.Common.{◌≡◌}
use Rattle.rx_program.proofs.program.draining.drain.Given as goal

-- the server is as it was
abbrev pub invariant-loop : goal.invariant-loop
invariant-loop g l = l.server ≡ l.initial.server
