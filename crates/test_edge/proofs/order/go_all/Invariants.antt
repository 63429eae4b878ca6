use Rattle.rx_pump.specs.Desks.{KeepsDesk}
use Rattle.test_edge.proofs.order.go_all.Given as goal

-- the desks are where they were
abbrev pub invariant-loop-round : goal.invariant-loop-round
invariant-loop-round g l = record {
  first : KeepsDesk l.fn.callers.first.desk l.callers.first.desk;
  second : KeepsDesk l.fn.callers.second.desk l.callers.second.desk;
  third : KeepsDesk l.fn.callers.third.desk l.callers.third.desk;
}
