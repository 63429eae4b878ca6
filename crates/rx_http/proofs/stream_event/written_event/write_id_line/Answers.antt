use Rattle.std.proofs.Common.{◌++◌, codes, append_assoc}
use Rattle.rx_http.specs.Ids.{id_bytes}
use Rattle.rx_proto.proofs.Writes.{Writes-fault, Writes-then}
use Rattle.rx_http.proofs.stream_event.written_event.write_id_line.Goals as goal

pub returns-in_err-write_bytes : goal.returns-in_err-write_bytes
returns-in_err-write_bytes g c =
    let id = id_bytes c.args.epoch.now c.args.place c.args.over in
    Writes-fault c.from_residual.result _ _ (codes "id: ") ((id ++ codes "\n") ++ c.args.kind.now) c.from_residual.ensures.0 c.in_err-write_bytes.ensures

pub returns-in_err-write_id : goal.returns-in_err-write_id
returns-in_err-write_id g c =
    let id = id_bytes c.args.epoch.now c.args.place c.args.over in
    let kind = c.args.kind.now in
    let result = c.from_residual-in_err-write_id.result in
    Writes-then result _ _ _ (codes "id: ") ((id ++ codes "\n") ++ kind) c.in_ok-write_bytes.ensures
    (rw (append_assoc id (codes "\n") kind)
    (Writes-fault result _ _ id (codes "\n" ++ kind) c.from_residual-in_err-write_id.ensures.0 c.in_err-write_id.ensures.bytes))

pub returns-in_err-write_bytes-2 : goal.returns-in_err-write_bytes-2
returns-in_err-write_bytes-2 g c =
    let id = id_bytes c.args.epoch.now c.args.place c.args.over in
    let kind = c.args.kind.now in
    let result = c.from_residual-in_err-write_bytes-2.result in
    Writes-then result _ _ _ (codes "id: ") ((id ++ codes "\n") ++ kind) c.in_ok-write_bytes.ensures
    (rw (append_assoc id (codes "\n") kind)
    (Writes-then result _ _ _ id (codes "\n" ++ kind) c.in_ok-write_id.ensures.bytes
    (Writes-fault result _ _ (codes "\n") kind c.from_residual-in_err-write_bytes-2.ensures.0 c.in_err-write_bytes-2.ensures)))

pub returns : goal.returns
returns g c =
    let id = id_bytes c.args.epoch.now c.args.place c.args.over in
    let kind = c.args.kind.now in
    let result = c.write_bytes-3.result in
    Writes-then result _ _ _ (codes "id: ") ((id ++ codes "\n") ++ kind) c.in_ok-write_bytes.ensures
    (rw (append_assoc id (codes "\n") kind)
    (Writes-then result _ _ _ id (codes "\n" ++ kind) c.in_ok-write_id.ensures.bytes
    (Writes-then result _ _ _ (codes "\n") kind c.in_ok-write_bytes-2.ensures c.write_bytes-3.ensures)))
