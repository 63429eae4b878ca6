use Rattle.rx_server.proofs.Desks.{keeps-none, keeps-then}
use Rattle.test_edge.proofs.order.emit_items.Goals as goal

pub loop-number-init : goal.loop-number-init
loop-number-init g c = keeps-none c.args.caller.desk

pub loop-number-preserved : goal.loop-number-preserved
loop-number-preserved g c = keeps-then c.args.caller.desk c.loop-number.caller.desk c.call-answered.new.self.desk c.loop-number.invariant c.call-answered.ensures
