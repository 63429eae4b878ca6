use Rattle.rx_pump.specs.Desks.{KeepsDesk}
use Rattle.test_edge.proofs.going_on.hear_some.Given as goal

-- the desk keeps what no call changes
abbrev pub invariant-loop-number : goal.invariant-loop-number
invariant-loop-number g l = KeepsDesk l.initial.caller.desk l.caller.desk
