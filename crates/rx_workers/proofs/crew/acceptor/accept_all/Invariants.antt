use Rattle.std.proofs.Common.{◌<◌, vec_len}
use Rattle.std.specs.List.{All}
use Rattle.rx_workers.specs.Accepting.{HoldsNothing}
use Rattle.rx_workers.proofs.Dealing.{SoFar}
use Rattle.rx_workers.proofs.crew.acceptor.accept_all.Given as goal

-- the connections so far went to their workers
abbrev pub invariant-loop-number : goal.invariant-loop-number
invariant-loop-number g l = record {
  some : 0 < vec_len l.ports;
  nothing : All HoldsNothing l.ports.items;
  so_far : SoFar g.L.Listener.accepts l.number l.initial.listener l.listener l.initial.ports.items l.ports.items;
}
