use Rattle.std.proofs.Common.{◌≡◌, ◌+◌, ◌≤◌, map, vec_len, vec_capacity}
use Rattle.rx_server.proofs.Starting.{Started}
use Rattle.rx_server.proofs.wired.running.start_drainers.Given as goal

-- the first drainers run, and there is room for the others
abbrev pub invariant-loop-drainer : goal.invariant-loop-drainer
invariant-loop-drainer g l = record {
  started : Started l.initial.drainers.items (map (λ drainer. drainer.handle.promise.0.value) l.running.items) l.drainers.items;
  room : vec_len l.running + vec_len l.drainers ≤ vec_capacity l.running;
  count : vec_len l.running + vec_len l.drainers ≡ vec_len l.initial.drainers;
}

abbrev pub decreases-loop-drainer : goal.decreases-loop-drainer
decreases-loop-drainer g l = vec_len l.drainers
