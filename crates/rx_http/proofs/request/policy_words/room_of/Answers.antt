-- A number of more than 16 bits is no room.
use Rattle.std.proofs.Common.{◌≡◌, ◌∙◌, sym, arith}
use Rattle.std.proofs.lemmas.Fmt.{decimal_injective}
use Rattle.rx_http.proofs.request.policy_words.room_of.Goals as goal

pub returns-in-Err : goal.returns-in-Err
returns-in-Err c = λ room fits same.
    let read = rw c.in_ok-number_of.was at c.number_of.ensures in
    let one : c.in_ok-number_of.field-0 ≡ room = decimal_injective c.in_ok-number_of.field-0 room (omega (arith, read.0)) (omega arith) (sym read.1 ∙ same) in
    omega (arith, c.in-Err.ensures)
