use Rattle.std.proofs.Common.{◌≡◌, ◌+◌, ◌≤◌, vec_len, vec_capacity}
use Rattle.rx_server.proofs.Starting.{Started}
use Rattle.rx_server.proofs.wired.running.start_pumps.Given as goal

-- the first pumps run, and there is room for the others
abbrev pub invariant-loop-pump : goal.invariant-loop-pump
invariant-loop-pump g l = record {
  started : Started l.initial.pumps.items l.running.items l.pumps.items;
  room : vec_len l.running + vec_len l.pumps ≤ vec_capacity l.running;
  count : vec_len l.running + vec_len l.pumps ≡ vec_len l.initial.pumps;
}

abbrev pub decreases-loop-pump : goal.decreases-loop-pump
decreases-loop-pump g l = vec_len l.pumps
