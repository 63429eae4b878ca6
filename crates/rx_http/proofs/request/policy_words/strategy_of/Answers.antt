-- Behind its name stands the room.
use Rattle.std.proofs.Common.{codes, ap, ◌∙◌, ◌++◌}
use Rattle.rx_http.proofs.Spelled.{stripped}
use Rattle.rx_http.proofs.request.policy_words.strategy_of.Goals as goal

pub returns-in-Some-strip_prefix : goal.returns-in-Some-strip_prefix
returns-in-Some-strip_prefix c =
    let read = rw c.in_ok-room_of-2.was at c.room_of-in-Some-strip_prefix.ensures in
    let cases = c.in-Some-strip_prefix.ensures.cases in
    let front = c.as_slice-3.result.now in
    let digits = c.in-Some-strip_prefix.digits.now in
    (read.0, stripped c.args.word.now front digits cases.0 cases.1 ∙ ap (λ l. l ++ digits) c.as_slice-3.ensures ∙ ap (λ l. codes "LATEST:" ++ l) read.1)
