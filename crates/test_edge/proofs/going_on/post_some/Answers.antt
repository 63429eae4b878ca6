use Rattle.rx_server.proofs.Desks.{keeps-none, keeps-then}
use Rattle.test_edge.proofs.going_on.post_some.Goals as goal

pub loop-init : goal.loop-init
loop-init g c = keeps-none c.args.caller.now.desk

pub loop-preserved : goal.loop-preserved
loop-preserved g c = keeps-then c.args.caller.now.desk c.loop.caller.desk c.post.new.self.desk c.loop.invariant c.post.ensures
