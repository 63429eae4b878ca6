-- A number out of the limits is no pace.
use Rattle.std.proofs.Common.{◌≡◌, ◌∙◌, sym, subst, arith}
use Rattle.std.proofs.lemmas.Fmt.{decimal_injective}
use Rattle.rx_http.specs.Words.{IsPace}
use Rattle.rx_http.proofs.request.policy_words.pace_of.Goals as goal

pub returns-in_default : goal.returns-in_default
returns-in_default c = λ pace has.
    let read = c.in-Some.ensures in
    let one : c.in-Some.pace ≡ pace = decimal_injective c.in-Some.pace pace (omega (arith, read.0)) (omega (arith, has.limits)) (sym read.1 ∙ has.word) in
    cc (c.is_pace.ensures.1 (subst IsPace (sym one) has.limits))
