use Rattle.rx_server.proofs.Desks.{keeps-none, keeps-then}
use Rattle.test_edge.proofs.going_on.join_many.Goals as goal

pub loop-who-init : goal.loop-who-init
loop-who-init g c = keeps-none c.args.caller.now.desk

pub loop-who-preserved : goal.loop-who-preserved
loop-who-preserved g c = keeps-then c.args.caller.now.desk c.loop-who.caller.desk c.join.new.self.desk c.loop-who.invariant c.join.ensures
