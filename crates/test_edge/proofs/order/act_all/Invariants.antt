use Rattle.rx_pump.specs.Desks.{KeepsDesk}
use Rattle.test_edge.proofs.order.act_all.Given as goal

-- the desk is where it was
abbrev pub invariant-loop-place : goal.invariant-loop-place
invariant-loop-place g l = KeepsDesk l.initial.caller.desk l.caller.desk
