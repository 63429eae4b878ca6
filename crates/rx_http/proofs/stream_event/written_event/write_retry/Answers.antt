use Rattle.std.proofs.Common.{◌++◌, codes, decimal}
use Rattle.rx_proto.proofs.Writes.{Writes-fault, Writes-then}
use Rattle.rx_http.proofs.stream_event.written_event.write_retry.Goals as goal

pub returns-in_err-write_bytes : goal.returns-in_err-write_bytes
returns-in_err-write_bytes g c =
    Writes-fault c.from_residual.result _ _ (codes "retry: ") (decimal c.args.ms ++ codes "\n") c.from_residual.ensures.0 c.in_err-write_bytes.ensures

pub returns-in_err-write_number : goal.returns-in_err-write_number
returns-in_err-write_number g c =
    let result = c.from_residual-in_err-write_number.result in
    let digits = decimal c.args.ms in
    Writes-then result _ _ _ (codes "retry: ") (digits ++ codes "\n") c.in_ok-write_bytes.ensures
    (Writes-fault result _ _ digits (codes "\n") c.from_residual-in_err-write_number.ensures.0 c.in_err-write_number.ensures.bytes)

pub returns : goal.returns
returns g c =
    let result = c.write_bytes-2.result in
    let digits = decimal c.args.ms in
    Writes-then result _ _ _ (codes "retry: ") (digits ++ codes "\n") c.in_ok-write_bytes.ensures
    (Writes-then result _ _ _ digits (codes "\n") c.in_ok-write_number.ensures.bytes c.write_bytes-2.ensures)
