use Rattle.rx_face.proofs.Facing.{some-same, some-then}
use Rattle.rx_face.proofs.attendance.Attendance.serve.Goals as goal

pub loop-init : goal.loop-init
loop-init g c = record { goes = some-same g.M.Moments.tells g.C.Read.remaining g.W.Write.contents c.args.self.now; watched = c.requires }

-- the doorway is closed
pub returns-then-is_closed-clause-goes : goal.returns-then-is_closed-clause-goes
returns-then-is_closed-clause-goes g c = c.loop.invariant.goes

pub loop-preserved : goal.loop-preserved
loop-preserved g c =
    let come = some-then g.M.Moments.tells g.C.Read.remaining g.W.Write.contents c.args.self.now c.loop.self c.admit_all.new.self c.loop.invariant.goes c.admit_all.ensures.goes in
    record {
      goes = some-then g.M.Moments.tells g.C.Read.remaining g.W.Write.contents c.args.self.now c.admit_all.new.self c.serve_ready.new.self come c.serve_ready.ensures.goes;
      watched = c.serve_ready.ensures.watched;
    }
