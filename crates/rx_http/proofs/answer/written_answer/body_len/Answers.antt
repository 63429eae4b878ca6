use Rattle.std.proofs.Common.{◌≡◌, ◌+◌, ◌++◌, codes, length, length-append, ap, arith}
use Rattle.rx_http.specs.Answers.{advice_of, error_of, refusal_body}
use Rattle.rx_http.specs.declared.answer.refusal.Refusal.{Refusal}
use Rattle.rx_http.proofs.answer.written_answer.body_len.Goals as goal

body_long : (refusal : Refusal) → 23 + length (error_of refusal) + length (advice_of refusal) ≡ length (refusal_body refusal)
body_long refusal =
    let error = error_of refusal in
    let advice = advice_of refusal in
    omega (arith, length-append error (codes "\",\"text\":\"" ++ (advice ++ codes "\"}\n")), length-append advice (codes "\"}\n"))

pub returns : goal.returns
returns c = omega (arith, ap length c.error.ensures.bytes, ap length c.advice.ensures.bytes, body_long c.args.refusal)
