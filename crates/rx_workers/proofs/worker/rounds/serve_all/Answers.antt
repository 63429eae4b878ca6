use Rattle.rx_workers.proofs.Working.{Arrivals-goes, DoesSome-same, DoesSome-then}
use Rattle.rx_workers.proofs.worker.rounds.serve_all.Goals as goal

pub loop-init : goal.loop-init
loop-init g c = record { goes = DoesSome-same g.M.Moments.tells g.C.Read.remaining g.W.Write.contents c.args.shift.now; watched = c.requires }

-- nobody comes any more, and no session is under way
pub returns-then-is_over-clause-goes : goal.returns-then-is_over-clause-goes
returns-then-is_over-clause-goes g c =
    DoesSome-then g.M.Moments.tells g.C.Read.remaining g.W.Write.contents c.args.shift.now c.loop.shift c.admit_all.new.self c.loop.invariant.goes
    (Arrivals-goes g.M.Moments.tells g.C.Read.remaining g.W.Write.contents c.loop.shift c.admit_all.new.self c.admit_all.ensures.arrivals)

pub loop-preserved : goal.loop-preserved
loop-preserved g c =
    let come = DoesSome-then g.M.Moments.tells g.C.Read.remaining g.W.Write.contents c.args.shift.now c.loop.shift c.admit_all.new.self c.loop.invariant.goes
    (Arrivals-goes g.M.Moments.tells g.C.Read.remaining g.W.Write.contents c.loop.shift c.admit_all.new.self c.admit_all.ensures.arrivals) in
    record {
      goes = DoesSome-then g.M.Moments.tells g.C.Read.remaining g.W.Write.contents c.args.shift.now c.admit_all.new.self c.serve_ready.new.shift come c.serve_ready.ensures.goes;
      watched = c.serve_ready.ensures.watched;
    }
