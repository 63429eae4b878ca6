-- A number out of the limits is no window.
use Rattle.std.proofs.Common.{◌≡◌, ◌∙◌, sym, subst, arith}
use Rattle.std.proofs.lemmas.Fmt.{decimal_injective}
use Rattle.rx_http.specs.Words.{IsWindow}
use Rattle.rx_http.proofs.request.policy_words.window_of.Goals as goal

pub returns-in_default : goal.returns-in_default
returns-in_default c = λ window has.
    let read = c.in-Some.ensures in
    let one : c.in-Some.window ≡ window = decimal_injective c.in-Some.window window (omega (arith, read.0)) (omega (arith, has.limits)) (sym read.1 ∙ has.word) in
    cc (c.is_window.ensures.1 (subst IsWindow (sym one) has.limits))
