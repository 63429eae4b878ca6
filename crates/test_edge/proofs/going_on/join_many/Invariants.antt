use Rattle.rx_pump.specs.Desks.{KeepsDesk}
use Rattle.test_edge.proofs.going_on.join_many.Given as goal

-- the desk keeps what no call changes
abbrev pub invariant-loop-who : goal.invariant-loop-who
invariant-loop-who g l = KeepsDesk l.initial.caller.desk l.caller.desk
