use Rattle.std.proofs.Common.{◌≡◌, true}
use Rattle.rx_workers.specs.Watching.{AreWatched}
use Rattle.rx_workers.proofs.Working.{HaveCome}
use Rattle.rx_workers.proofs.worker.shift.Shift.admit_all.Given as goal

-- the connections that came so far, and each client is watched
abbrev pub invariant-loop : goal.invariant-loop
invariant-loop g l = record {
  was_open : l.initial.self.is_open ≡ true;
  came : HaveCome g.M.Moments.tells g.C.Read.remaining g.W.Write.contents l.initial.self l.self;
  watched : AreWatched (g.P.Readiness.watched l.readiness) l.self.clients;
}
