-- Parting with a follower is one deed.
use Rattle.rx_face.specs.Facing.{Parted}
use Rattle.rx_face.proofs.Facing.{some-one}
use Rattle.rx_face.proofs.attendance.Attendance.part.Goals as goal

pub returns-clause-goes : goal.returns-clause-goes
returns-clause-goes g c =
    rw (← c.self.view_is) (some-one g.M.Moments.tells g.C.Read.remaining g.W.Write.contents (Parted c.args.place) _ _ (c.in-Some.follower, c.dispose.ensures, c.in-Some.ensures.taken))
