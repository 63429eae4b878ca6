use Rattle.std.proofs.Common.{◌≡◌, ◌+◌, ◌≤◌, ◌++◌, length, vec_len, vec_capacity}
use Rattle.std.specs.Vec.Iter.{into_iter_items}
use Rattle.rx_server.proofs.hosted.take_all.Given as goal

-- what was taken and what is left are all, and there is room for the rest
abbrev pub invariant-loop-one : goal.invariant-loop-one
invariant-loop-one g l = record {
  parts : l.taken.items ++ into_iter_items l.left ≡ l.initial.taken.items ++ into_iter_items l.initial.left;
  room : vec_len l.taken + length (into_iter_items l.left) ≤ vec_capacity l.taken;
}

abbrev pub decreases-loop-one : goal.decreases-loop-one
decreases-loop-one g l = length (into_iter_items l.left)
