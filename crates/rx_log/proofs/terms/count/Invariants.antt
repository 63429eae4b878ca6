use Rattle.std.proofs.Common.{◌≡◌, ◌++◌, map, take, drop}
use Rattle.rx_log.specs.Terms.{with_number}
use Rattle.rx_log.proofs.terms.count.Given as goal

abbrev pub invariant-loop-i : goal.invariant-loop-i
invariant-loop-i l = l.terms.items ≡ map (with_number l.tenure l.number) (take l.i l.fn.terms.items) ++ drop l.i l.fn.terms.items
