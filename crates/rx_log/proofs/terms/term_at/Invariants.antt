use Rattle.std.proofs.Common.{◌≢◌, ℕ, ◌<◌, get_or}
use Rattle.rx_log.specs.declared.term.Term.{Term}
use Rattle.rx_log.proofs.terms.term_at.Given as goal

abbrev pub invariant-loop-i : goal.invariant-loop-i
invariant-loop-i l = (k : ℕ) (d : Term) → k < l.i → (get_or l.terms.items k d).current ≢ l.tenure
