-- A word, a text and an LF, one behind another.
use Rattle.std.proofs.Common.{◌++◌, ◌∷◌, [], sym, append_assoc}
use Rattle.rx_proto.proofs.Writes.{Writes-as, Writes-fault, Writes-then}
use Rattle.rx_proto.specs.Printing.{line}
use Rattle.rx_proto.proofs.writer.write_text.Goals as goal

pub returns-in_err-write_bytes : goal.returns-in_err-write_bytes
returns-in_err-write_bytes g c =
    let word = c.args.word.now in
    let text = c.args.text.now in
    Writes-as _ _ _ (word ++ (text ++ 10 ∷ [])) (line (word ++ text)) (sym (append_assoc word text (10 ∷ [])))
    (Writes-fault c.from_residual.result _ _ word (text ++ 10 ∷ []) c.from_residual.ensures.0 c.in_err-write_bytes.ensures)

pub returns-in_err-write_bytes-2 : goal.returns-in_err-write_bytes-2
returns-in_err-write_bytes-2 g c =
    let word = c.args.word.now in
    let text = c.args.text.now in
    let result = c.from_residual-in_err-write_bytes-2.result in
    Writes-as _ _ _ (word ++ (text ++ 10 ∷ [])) (line (word ++ text)) (sym (append_assoc word text (10 ∷ [])))
    (Writes-then result _ _ _ word (text ++ 10 ∷ []) c.in_ok-write_bytes.ensures
    (Writes-fault result _ _ text (10 ∷ []) c.from_residual-in_err-write_bytes-2.ensures.0 (rw (← c.as_bytes.ensures.bytes) c.in_err-write_bytes-2.ensures)))

pub returns : goal.returns
returns g c =
    let word = c.args.word.now in
    let text = c.args.text.now in
    let result = c.write_bytes-3.result in
    Writes-as _ _ _ (word ++ (text ++ 10 ∷ [])) (line (word ++ text)) (sym (append_assoc word text (10 ∷ [])))
    (Writes-then result _ _ _ word (text ++ 10 ∷ []) c.in_ok-write_bytes.ensures
    (Writes-then result _ _ _ text (10 ∷ []) (rw (← c.as_bytes.ensures.bytes) c.in_ok-write_bytes-2.ensures) c.write_bytes-3.ensures))
