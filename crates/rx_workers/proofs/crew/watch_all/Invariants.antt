use Rattle.std.proofs.Common.{◌≡◌, ◌≤◌, vec_len, vec_capacity}
use Rattle.rx_workers.proofs.crew.watch_all.Given as goal

-- each so far has what it waits by and its waker, and there is room for the others
abbrev pub invariant-loop-place : goal.invariant-loop-place
invariant-loop-place g l = record {
  readiness : vec_len l.readiness ≡ l.place;
  room : l.count ≤ vec_capacity l.readiness;
  wakers : vec_len l.wakers ≡ l.place;
  waker_room : l.count ≤ vec_capacity l.wakers;
}
