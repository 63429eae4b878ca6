use Rattle.rx_pump.specs.Desks.{KeepsDesk}
use Rattle.test_edge.proofs.going_on.join_each.Given as goal

-- the desk keeps what no call changes
abbrev pub invariant-loop-subject : goal.invariant-loop-subject
invariant-loop-subject g l = KeepsDesk l.initial.caller.desk l.caller.desk
