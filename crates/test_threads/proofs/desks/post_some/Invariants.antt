use Rattle.std.proofs.Common.{◌<◌, length}
use Rattle.rx_pump.specs.Desks.{KeepsDesk}
use Rattle.test_threads.proofs.desks.post_some.Given as goal

-- the desk has a port, and is of the same boxes
abbrev pub invariant-loop : goal.invariant-loop
invariant-loop g l = record { keeps : KeepsDesk l.initial.desk l.desk; some : 0 < length l.desk.ports }
