use Rattle.rx_workers.specs.Watching.{AreWatched}
use Rattle.rx_face.specs.Facing.{DoesSome}
use Rattle.rx_face.proofs.attendance.Attendance.serve_ready.Given as goal

-- what was done so far, and each client is watched
abbrev pub invariant-loop : goal.invariant-loop
invariant-loop g l = record {
  goes : DoesSome g.M.Moments.tells g.C.Read.remaining g.W.Write.contents l.initial.self l.self;
  watched : AreWatched (g.P.Readiness.watched l.doorway) l.self.clients;
}
