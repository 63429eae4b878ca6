-- A text is UTF-8 exactly where it is read as such, or is of ASCII.
use Rattle.std.proofs.Common.{sym, ap, ◌∙◌}
use Rattle.std.specs.Str.{is_utf8}
use Rattle.rx_http.proofs.PlainTexts.{plain-line, read_as}
use Rattle.rx_http.proofs.stream_event.lines.is_text.Goals as goal

pub returns-then-is_plain : goal.returns-then-is_plain
returns-then-is_plain c =
    let plain = plain-line c.as_bytes-bytes.result.now (sym c.is_plain.ensures ∙ c.if-is_plain.true) in
    c.if-is_plain.true ∙ sym plain.told ∙ ap is_utf8 c.as_bytes-bytes.ensures.bytes

pub returns-else-is_plain : goal.returns-else-is_plain
returns-else-is_plain c = c.is_ok.ensures.value ∙ read_as c.from_utf8.result _ _ _ c.from_utf8.ensures.cases ∙ ap is_utf8 c.as_bytes-bytes.ensures.bytes
