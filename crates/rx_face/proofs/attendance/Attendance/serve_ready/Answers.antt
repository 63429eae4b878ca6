use Rattle.rx_face.proofs.Facing.{some-same, some-then}
use Rattle.rx_face.proofs.attendance.Attendance.serve_ready.Goals as goal

pub loop-init : goal.loop-init
loop-init g c = record { goes = some-same g.M.Moments.tells g.C.Read.remaining g.W.Write.contents c.args.self.now; watched = c.requires }

pub loop-preserved : goal.loop-preserved
loop-preserved g c = record {
  goes = some-then g.M.Moments.tells g.C.Read.remaining g.W.Write.contents c.args.self.now c.loop.self c.attend.new.self c.loop.invariant.goes c.attend.ensures.goes;
  watched = c.attend.ensures.watched;
}
