use Rattle.std.proofs.Common.{◌≡◌, ◌+◌, ◌≤◌, take}
use Rattle.rx_log.specs.Rules.{with_marks}
use Rattle.rx_log.proofs.recent.with_marks.Given as goal

abbrev pub invariant-loop-i : goal.invariant-loop-i
invariant-loop-i l = (l.total ≡ with_marks l.base l.fn.told (take l.i l.recent.items)) × (l.total.items ≤ l.fn.told.items + l.i)
