-- The connection was given a place, or was given up.
use Rattle.rx_face.proofs.Facing.{some-admitted}
use Rattle.rx_face.proofs.attendance.Attendance.admit.Goals as goal

pub returns-clause-goes : goal.returns-clause-goes
returns-clause-goes g c =
    rw (← c.self.view_is)
    (some-admitted g.M.Moments.tells g.C.Read.remaining g.W.Write.contents c.admit.result c.args.connection c.self.inside.desk c.self.inside.clients c.admit.new.clients c.admit.ensures.admits)
