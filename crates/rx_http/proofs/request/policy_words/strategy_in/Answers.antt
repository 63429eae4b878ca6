-- No strategy is long.
use Rattle.std.proofs.Common.{◌≤◌, ℕ, List, length, sym, subst}
use Rattle.rx_http.proofs.Spelled.{strategy-short}
use Rattle.rx_http.proofs.request.policy_words.strategy_in.Goals as goal

pub returns-in-None : goal.returns-in-None
returns-in-None c = λ strategy room same. c.in-None.ensures (subst (λ (l : List ℕ). length l ≤ 64) (sym same) (strategy-short strategy room))
