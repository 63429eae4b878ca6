use Rattle.std.proofs.Common.{◌≡◌, ◌≤◌, take}
use Rattle.rx_server.specs.Wirings.{most_observers}
use Rattle.rx_server.proofs.wired.most_observers.Given as goal

-- the most of the subjects before this one
abbrev pub invariant-loop-subject : goal.invariant-loop-subject
invariant-loop-subject l = record {
  most : l.most ≡ most_observers (take l.subject-index l.fn.subjects.items);
  bound : l.most ≤ 64;
}
