use Rattle.rx_pump.specs.Desks.{KeepsDesk}
use Rattle.test_edge.proofs.callers.emit_all.Given as goal

-- the desk keeps what no call changes
abbrev pub invariant-loop-byte : goal.invariant-loop-byte
invariant-loop-byte g l = KeepsDesk l.initial.caller.desk l.caller.desk
