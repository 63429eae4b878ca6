use Rattle.std.proofs.Common.{subst, sym, ◌∙◌}
use Rattle.rx_http.specs.Events.{IsLine}
use Rattle.rx_http.proofs.PlainTexts.{plain-line}
use Rattle.rx_http.proofs.stream_event.lines.is_line.Goals as goal

pub returns-then-is_plain : goal.returns-then-is_plain
returns-then-is_plain c _ = subst IsLine c.as_bytes-bytes.ensures.bytes (plain-line c.as_bytes-bytes.result.now (sym c.is_plain.ensures ∙ c.if-is_plain.true))

pub returns-else-is_plain : goal.returns-else-is_plain
returns-else-is_plain c is = subst IsLine c.as_bytes-bytes.ensures.bytes (c.is_line_of_words.ensures is)
