use Rattle.rx_workers.proofs.Working.{DoesSome-same, DoesSome-then, Serves-goes}
use Rattle.rx_workers.proofs.worker.rounds.serve_ready.Goals as goal

pub loop-init : goal.loop-init
loop-init g c = record { goes = DoesSome-same g.M.Moments.tells g.C.Read.remaining g.W.Write.contents c.args.shift.now; watched = c.requires }

pub loop-preserved : goal.loop-preserved
loop-preserved g c = record {
  goes =
      DoesSome-then g.M.Moments.tells g.C.Read.remaining g.W.Write.contents c.args.shift.now c.loop.shift c.serve.new.self c.loop.invariant.goes
      (Serves-goes g.M.Moments.tells g.C.Read.remaining g.W.Write.contents c.in-Some.ready.key c.in-Some.ready.is_gone c.loop.shift c.serve.new.self c.serve.ensures.serves);
  watched = c.serve.ensures.watched;
}
