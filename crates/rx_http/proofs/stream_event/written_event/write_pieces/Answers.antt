use Rattle.std.proofs.Common.{◌++◌, codes, append_assoc}
use Rattle.rx_http.specs.Events.{saying_of}
use Rattle.rx_http.specs.Pieces.{id_line, kind_line, text_lines}
use Rattle.rx_proto.proofs.Writes.{Writes-fault, Writes-then}
use Rattle.rx_http.proofs.stream_event.written_event.write_pieces.Goals as goal

pub returns-in_err-write_head : goal.returns-in_err-write_head
returns-in_err-write_head g c =
    let says = saying_of c.args.epoch.now c.args.event in
    let behind = text_lines says.text ++ codes "\n\n" in
    rw (← append_assoc (id_line says.id) (kind_line says.kind) behind)
    (Writes-fault c.from_residual.result _ _ (id_line says.id ++ kind_line says.kind) behind c.from_residual.ensures.0 c.in_err-write_head.ensures)

pub returns-in_err-write_text : goal.returns-in_err-write_text
returns-in_err-write_text g c =
    let says = saying_of c.args.epoch.now c.args.event in
    let text = text_lines says.text in
    let result = c.from_residual-in_err-write_text.result in
    rw (← append_assoc (id_line says.id) (kind_line says.kind) (text ++ codes "\n\n"))
    (Writes-then result _ _ _ (id_line says.id ++ kind_line says.kind) (text ++ codes "\n\n") c.in_ok-write_head.ensures
    (Writes-fault result _ _ text (codes "\n\n") c.from_residual-in_err-write_text.ensures.0 c.in_err-write_text.ensures))

pub returns : goal.returns
returns g c =
    let says = saying_of c.args.epoch.now c.args.event in
    let text = text_lines says.text in
    let result = c.write_bytes.result in
    rw (← append_assoc (id_line says.id) (kind_line says.kind) (text ++ codes "\n\n"))
    (Writes-then result _ _ _ (id_line says.id ++ kind_line says.kind) (text ++ codes "\n\n") c.in_ok-write_head.ensures
    (Writes-then result _ _ _ text (codes "\n\n") c.in_ok-write_text.ensures c.write_bytes.ensures))
