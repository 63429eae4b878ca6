use Rattle.std.proofs.Common.{◌≡◌, ◌==◌, false, sym, ◌∙◌}
use Rattle.std.specs.List.{list_any}
use Rattle.rx_http.proofs.Plain.{no_cr-lines}
use Rattle.rx_http.proofs.PlainTexts.{read_as}
use Rattle.rx_http.proofs.stream_event.lines.is_line_of_words.Goals as goal

pub returns-then-not-contains : goal.returns-then-not-contains
returns-then-not-contains c is =
    let bytes = c.args.bytes.now in
    let none : list_any (λ byte. byte == 13) bytes ≡ false = sym c.contains.ensures.value ∙ c.if-not-contains.true in
    record { told = sym (read_as c.from_utf8.result _ _ bytes c.from_utf8.ensures.cases) ∙ sym c.is_ok.ensures.value ∙ is; line = no_cr-lines bytes none }
