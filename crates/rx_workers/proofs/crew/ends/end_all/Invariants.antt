use Rattle.std.proofs.Common.{◌≡◌, ◌+◌, ◌<◌, ◌≤◌, vec_len, vec_capacity, ℕ, List, [], length, None, Some, IfSome, map, reverse}
use Rattle.std.specs.List.{All, AllZip}
use Rattle.rx_config.specs.declared.config.Config.{Config}
use Rattle.rx_pump.specs.Desks.{DeskView}
use Rattle.rx_workers.specs.Accepting.{Deals}
use Rattle.rx_workers.specs.Crews.{AreOut, IsPortOf, worker_desk}
use Rattle.rx_workers.specs.Service.{FirstEndsEarly, IsNewOver, port_to}
use Rattle.rx_workers.specs.Workers.{peers}
use Rattle.rx_workers.proofs.Service.{HaveServedSome}
use Rattle.rx_workers.proofs.crew.ends.end_all.Given as goal

-- the desks of the workers that ended are back, and where none was lost they served what was dealt to them; one that
-- was is the first that ended early
abbrev pub invariant-loop-worker : goal.invariant-loop-worker
invariant-loop-worker g l = record {
  room : vec_len l.desks + vec_len l.workers ≤ vec_capacity l.desks;
  count : vec_len l.workers ≡ vec_len l.ports;
  ports : AllZip IsPortOf (reverse l.workers.items) (reverse l.ports.items);
  out : (all : List (DeskView _)) → AreOut all l.initial.desks.items l.initial.workers.items → AreOut all l.desks.items l.workers.items;
  served : l.lost ≡ None → l.initial.desks.items ≡ [] → (config : Config) → (xs : List _) → All (λ one. IsNewOver config (worker_desk one) one) l.initial.workers.items
      → Deals xs (reverse (map port_to l.initial.workers.items)) (reverse l.initial.ports.items)
      → HaveServedSome (peers g.M.Moments.tells g.C.Read.remaining g.W.Write.contents) config (length l.initial.workers.items) xs (map worker_desk (reverse l.initial.workers.items)) l.desks.items l.workers.items l.ports.items;
  first : (place : ℕ) → l.lost ≡ Some place → l.initial.desks.items ≡ [] → (config : Config) → (xs : List _) → All (λ one. IsNewOver config (worker_desk one) one) l.initial.workers.items
      → Deals xs (reverse (map port_to l.initial.workers.items)) (reverse l.initial.ports.items)
      → FirstEndsEarly (peers g.M.Moments.tells g.C.Read.remaining g.W.Write.contents) config xs place (map worker_desk (reverse l.initial.workers.items)) l.desks.items;
  lost : IfSome l.lost (λ place. place < vec_len l.desks);
}

abbrev pub decreases-loop-worker : goal.decreases-loop-worker
decreases-loop-worker g l = vec_len l.workers
