use Rattle.rx_server.proofs.Desks.{keeps-none, keeps-then}
use Rattle.test_edge.proofs.going_on.emit_together.Goals as goal

pub loop-subject-init : goal.loop-subject-init
loop-subject-init g c = keeps-none c.args.caller.now.desk

pub loop-subject-preserved : goal.loop-subject-preserved
loop-subject-preserved g c =
    let before = c.loop-subject.caller.desk in
    let posted = c.post_some-posted.new.caller.desk in
    let heard = c.hear_some.new.caller.desk in
    let rest = c.emit_rest.new.caller.desk in
    keeps-then c.args.caller.now.desk before rest c.loop-subject.invariant
    (keeps-then before posted rest c.post_some-posted.ensures (keeps-then posted heard rest c.hear_some.ensures c.emit_rest.ensures))
