use Rattle.std.proofs.Common.{◌≡◌}
use Rattle.test_threads.proofs.boxes.receive_numbers.Given as goal

-- the inbox is of the same box
abbrev pub invariant-loop-number : goal.invariant-loop-number
invariant-loop-number g l = l.inbox.box ≡ l.initial.inbox.box
