use Rattle.rx_server.proofs.Desks.{keeps-none, keeps-then}
use Rattle.test_edge.proofs.going_on.hear_some.Goals as goal

pub loop-number-init : goal.loop-number-init
loop-number-init g c = keeps-none c.args.caller.now.desk

pub loop-number-preserved : goal.loop-number-preserved
loop-number-preserved g c = keeps-then c.args.caller.now.desk c.loop-number.caller.desk c.answer.new.self.desk c.loop-number.invariant c.answer.ensures
