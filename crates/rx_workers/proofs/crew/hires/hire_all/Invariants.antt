use Rattle.std.proofs.Common.{◌≡◌, ◌+◌, ◌≤◌, map, vec_len, vec_capacity}
use Rattle.std.specs.Arc.{arc_value}
use Rattle.std.specs.List.{All}
use Rattle.rx_workers.specs.Crews.{IsFor, worker_desk}
use Rattle.rx_workers.specs.Service.{IsNewOver, port_to}
use Rattle.rx_workers.proofs.Crews.{IsSplit}
use Rattle.rx_workers.proofs.crew.hires.hire_all.Given as goal

-- the desks that are left have room for all, and those of the workers are the rest
abbrev pub invariant-loop-desk : goal.invariant-loop-desk
invariant-loop-desk g l = record {
  fit : All (IsFor (arc_value l.config)) l.desks.items;
  split : IsSplit l.initial.desks.items l.desks.items l.workers.items;
  room : vec_len l.desks + vec_len l.workers ≤ vec_capacity l.desks;
  workers : vec_len l.desks + vec_len l.workers ≤ vec_capacity l.workers;
  ports : vec_len l.desks + vec_len l.ports ≤ vec_capacity l.ports;
  count : vec_len l.desks + vec_len l.ports ≡ vec_len l.initial.desks;
  waits : vec_len l.desks ≡ vec_len l.readiness;
  new : All (λ one. IsNewOver (arc_value l.config) (worker_desk one) one) l.workers.items;
  ports_are : l.ports.items ≡ map port_to l.workers.items;
}

abbrev pub decreases-loop-desk : goal.decreases-loop-desk
decreases-loop-desk g l = vec_len l.desks
