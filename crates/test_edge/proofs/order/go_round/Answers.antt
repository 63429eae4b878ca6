use Rattle.rx_pump.specs.Desks.{KeepsDesk}
use Rattle.test_edge.proofs.order.go_round.Goals as goal

pub returns : goal.returns
returns g c =
    let first : KeepsDesk c.args.callers.first.desk c.join-first.result.0.desk = c.join-first.ensures.first in
    let second : KeepsDesk c.args.callers.second.desk c.join-first.result.1.desk = c.join-first.ensures.second in
    (first, second, c.act_all.ensures)
