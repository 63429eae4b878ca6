-- An exchange begins, has a turn, and then the follower is parted with.
use Rattle.rx_face.proofs.Facing.{some-then}
use Rattle.rx_face.proofs.attendance.Attendance.attend.Goals as goal

pub returns-then-ready-clause-goes : goal.returns-then-ready-clause-goes
returns-then-ready-clause-goes g c =
    some-then g.M.Moments.tells g.C.Read.remaining g.W.Write.contents c.args.self.now c.start.new.self c.part.new.self c.start.ensures.goes
    (some-then g.M.Moments.tells g.C.Read.remaining g.W.Write.contents c.start.new.self c.turn.new.self c.part.new.self c.turn.ensures.goes c.part.ensures.goes)

pub returns-else-ready-clause-goes : goal.returns-else-ready-clause-goes
returns-else-ready-clause-goes g c =
    some-then g.M.Moments.tells g.C.Read.remaining g.W.Write.contents c.args.self.now c.start.new.self c.turn.new.self c.start.ensures.goes c.turn.ensures.goes
