use Rattle.rx_pump.specs.Desks.{KeepsDesk}
use Rattle.test_edge.proofs.going_on.post_some.Given as goal

-- the desk keeps what no call changes
abbrev pub invariant-loop : goal.invariant-loop
invariant-loop g l = KeepsDesk l.initial.caller.desk l.caller.desk
