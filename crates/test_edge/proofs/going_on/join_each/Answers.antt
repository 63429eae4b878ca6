use Rattle.rx_server.proofs.Desks.{keeps-none, keeps-then}
use Rattle.test_edge.proofs.going_on.join_each.Goals as goal

pub loop-subject-init : goal.loop-subject-init
loop-subject-init g c = keeps-none c.args.caller.now.desk

pub loop-subject-preserved : goal.loop-subject-preserved
loop-subject-preserved g c = keeps-then c.args.caller.now.desk c.loop-subject.caller.desk c.join.new.self.desk c.loop-subject.invariant c.join.ensures
