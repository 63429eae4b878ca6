use Rattle.rx_pump.specs.Desks.{KeepsDesk}
use Rattle.test_edge.proofs.order.emit_items.Given as goal

-- the desk is where it was
abbrev pub invariant-loop-number : goal.invariant-loop-number
invariant-loop-number g l = KeepsDesk l.initial.caller.desk l.caller.desk
