-- What stands before an item's text, and its text behind it.
use Rattle.std.proofs.Common.{◌++◌, ◌∷◌, [], codes, sym, append_assoc, ap, ◌∙◌}
use Rattle.rx_proto.proofs.Writes.{Writes-as, Writes-fault, Writes-then}
use Rattle.rx_proto.specs.Printing.{line, origin_of}
use Rattle.rx_proto.proofs.writer.write_long_item.Goals as goal

pub returns-in_err-write_bytes : goal.returns-in_err-write_bytes
returns-in_err-write_bytes g c =
    let said = origin_of c.args.item.now ++ c.args.item.now.text in
    Writes-as _ _ _ (codes "NEXT " ++ line said) (line (codes "NEXT " ++ said)) (sym (append_assoc (codes "NEXT ") said (10 ∷ [])))
    (Writes-fault c.from_residual.result _ _ (codes "NEXT ") (line said) c.from_residual.ensures.0 c.in_err-write_bytes.ensures)

pub returns : goal.returns
returns g c =
    let said = origin_of c.args.item.now ++ c.args.item.now.text in
    Writes-as _ _ _ (codes "NEXT " ++ line said) (line (codes "NEXT " ++ said)) (sym (append_assoc (codes "NEXT ") said (10 ∷ [])))
    (Writes-then c.write_text.result _ _ _ (codes "NEXT ") (line said) c.in_ok-write_bytes.ensures (rw (← c.item_origin.ensures, ← c.as_bytes.ensures.bytes) c.write_text.ensures))
