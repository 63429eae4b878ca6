use Rattle.std.proofs.Common.{◌≡◌, ℕ, List, false, cond, sym, ap, ◌∙◌}
use Rattle.std.specs.Str.{is_utf8}
use Rattle.base64.specs.Engines.{standard}
use Rattle.base64.specs.GeneralPurpose.{encode_of}
use Rattle.rx_http.specs.Events.{text_by}
use Rattle.rx_http.specs.Pieces.{text_lines}
use Rattle.rx_http.proofs.Plain.{coded_lines}
use Rattle.rx_proto.proofs.Writes.{Writes-as}
use Rattle.rx_http.proofs.stream_event.written_event.write_words.Goals as goal

coded-told : (text : List ℕ) → is_utf8 text ≡ false → encode_of standard text ≡ text_lines (text_by text)
coded-told text none = sym (coded_lines text) ∙ ap (λ is. text_lines (cond is text (encode_of standard text))) (sym none)

pub returns-else-is_text : goal.returns-else-is_text
returns-else-is_text g c =
    Writes-as c.write_coded.result _ _ _ _ (coded-told c.args.text.now (sym c.is_text.ensures ∙ c.if-is_text.false)) c.write_coded.ensures
