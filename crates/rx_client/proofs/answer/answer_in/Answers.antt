use Rattle.std.proofs.Common.{ℕ, List, length, subst, sym, ap, take, arith}
use Rattle.rx_client.specs.Looking.{IsAnswer}
use Rattle.rx_client.proofs.Answered.{all-behind, answers}
use Rattle.rx_client.proofs.answer.answer_in.Goals as goal

pub returns-else-behind-size : goal.returns-else-behind-size
returns-else-behind-size c =
    let (head, at) = rw c.in-Ok-Complete.field-0-is at c.in-Ok-Complete.ensures.complete in
    let came = c.args.came.now in
    let parts = c.in-Ok-Complete.parts in
    subst (λ (behind : List ℕ). IsAnswer parts.code came (take c.in-Some.size behind)) (sym (all-behind came parts.len))
    (answers came c.parse_response.new.headers parts head c.in-Some.size at c.in-Some.ensures (omega (arith, c.if-behind-size.false, ap length (all-behind came parts.len))))
