use Rattle.rx_server.proofs.Desks.{keeps-none, keeps-then}
use Rattle.test_edge.proofs.order.act_all.Goals as goal

pub loop-place-init : goal.loop-place-init
loop-place-init g c = keeps-none c.args.caller.now.desk

pub loop-place-preserved : goal.loop-place-preserved
loop-place-preserved g c = keeps-then c.args.caller.now.desk c.loop-place.caller.desk c.call-answer.new.self.desk c.loop-place.invariant c.call-answer.ensures
