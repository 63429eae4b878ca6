-- A number out of the limits is no time to wait.
use Rattle.std.proofs.Common.{◌≡◌, ◌∙◌, sym, subst, arith}
use Rattle.std.proofs.lemmas.Fmt.{decimal_injective}
use Rattle.rx_http.specs.Words.{IsWithin}
use Rattle.rx_http.proofs.request.policy_words.within_of.Goals as goal

pub returns-in_default : goal.returns-in_default
returns-in_default c = λ within has.
    let read = c.in-Some.ensures in
    let one : c.in-Some.within ≡ within = decimal_injective c.in-Some.within within (omega (arith, read.0)) (omega (arith, has.limits)) (sym read.1 ∙ has.word) in
    cc (c.is_within.ensures.1 (subst IsWithin (sym one) has.limits))
