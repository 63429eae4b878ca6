use Rattle.std.proofs.Common.{◌≡◌, ◌++◌, map, take, drop}
use Rattle.rx_log.specs.Terms.{renewed}
use Rattle.rx_log.proofs.terms.renew.Given as goal

abbrev pub invariant-loop-i : goal.invariant-loop-i
invariant-loop-i l = l.terms.items ≡ map (renewed l.holder l.place l.counts) (take l.i l.fn.terms.items) ++ drop l.i l.fn.terms.items
