use Rattle.rx_workers.proofs.Working.{arrived, arrived-none, come-none, come-one}
use Rattle.rx_workers.proofs.worker.shift.Shift.admit_all.Goals as goal

-- nobody could come
pub returns-then-not-self-clause-arrivals : goal.returns-then-not-self-clause-arrivals
returns-then-not-self-clause-arrivals g c = rw (← c.self.view_is) (arrived-none g.M.Moments.tells g.C.Read.remaining g.W.Write.contents _)

pub loop-init : goal.loop-init
loop-init g c = record {
  was_open = rw (← c.self.view_is) c.if-not-self.false;
  came = come-none g.M.Moments.tells g.C.Read.remaining g.W.Write.contents c.args.self.now;
  watched = c.requires;
}

pub returns-then-not-admit_next : goal.returns-then-not-admit_next
returns-then-not-admit_next g c = record {
  arrivals =
      arrived g.M.Moments.tells g.C.Read.remaining g.W.Write.contents c.args.self.now c.loop.self c.admit_next.new.self c.loop.invariant.was_open c.loop.invariant.came
      (c.admit_next.ensures.none c.if-not-admit_next.true);
  watched = c.admit_next.ensures.watched;
}

pub loop-preserved : goal.loop-preserved
loop-preserved g c = record {
  was_open = c.loop.invariant.was_open;
  came =
      come-one g.M.Moments.tells g.C.Read.remaining g.W.Write.contents c.args.self.now c.loop.self c.admit_next.new.self c.loop.invariant.came
      (c.admit_next.ensures.came c.if-not-admit_next.false);
  watched = c.admit_next.ensures.watched;
}
