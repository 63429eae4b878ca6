use Rattle.rx_server.proofs.Desks.{keeps-none, keeps-then}
use Rattle.test_edge.proofs.callers.Caller.emit_to_each.Goals as goal

pub loop-subject-init : goal.loop-subject-init
loop-subject-init g c = keeps-none c.args.self.now.desk

pub loop-subject-preserved : goal.loop-subject-preserved
loop-subject-preserved g c = keeps-then c.args.self.now.desk c.loop-subject.self.desk c.emit.new.self.desk c.loop-subject.invariant c.emit.ensures
