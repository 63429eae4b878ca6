-- The exchange of a connection began, or the connection was given up.
use Rattle.rx_face.proofs.Facing.{some-started}
use Rattle.rx_face.proofs.attendance.Attendance.start.Goals as goal

pub returns-clause-goes : goal.returns-clause-goes
returns-clause-goes g c =
    let (connection, starts) = c.begin.ensures.starts in
    rw (← c.self.view_is)
    (some-started g.M.Moments.tells g.C.Read.remaining g.W.Write.contents c.new-exchange.result c.begin.result c.args.place connection c.self.inside.desk c.self.inside.clients c.begin.new.clients c.new-exchange.ensures.new starts)
