use Rattle.std.proofs.Common.{◌≡◌, ◌+◌, ◌&&◌, ◌==◌, [], drop, get_or, not, nat_lt, ap, sym, ◌∙◌}
use Rattle.std.proofs.lemmas.List.{drop_all, drop_more}
use Rattle.std.specs.List.{list_all}
use Rattle.rx_http.specs.Events.{is_plain_byte}
use Rattle.rx_http.proofs.PlainTexts.{and-assoc, and-true}
use Rattle.rx_http.proofs.stream_event.lines.are_plain.Goals as goal

pub returns : goal.returns
returns c =
    let bytes = c.args.bytes.now in
    let i = c.loop-byte.byte-index in
    let none : drop i bytes ≡ [] = drop_all i bytes c.loop-byte-test.false in
    sym (c.loop-byte.invariant ∙ ap (λ l. c.loop-byte.plain && list_all is_plain_byte l) none ∙ and-true c.loop-byte.plain)

pub loop-byte-preserved : goal.loop-byte-preserved
loop-byte-preserved c =
    let bytes = c.args.bytes.now in
    let i = c.loop-byte.byte-index in
    let byte = get_or bytes i 0 in
    c.loop-byte.invariant
    ∙ ap (λ l. c.loop-byte.plain && list_all is_plain_byte l) (drop_more bytes i 0 c.loop-byte-test.true)
    ∙ and-assoc c.loop-byte.plain (nat_lt byte 128) (not (byte == 13)) (list_all is_plain_byte (drop (i + 1) bytes))
