-- No number is long.
use Rattle.std.proofs.Common.{◌≤◌, ℕ, List, length, sym, subst, arith}
use Rattle.rx_http.proofs.Spelled.{number-short}
use Rattle.rx_http.proofs.request.policy_words.number_in.Goals as goal

pub returns-in-None : goal.returns-in-None
returns-in-None c = λ n fits same. c.in-None.ensures (subst (λ (l : List ℕ). length l ≤ 64) (sym same) (omega (arith, number-short n fits)))
