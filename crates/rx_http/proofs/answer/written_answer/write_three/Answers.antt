use Rattle.std.proofs.Common.{◌++◌}
use Rattle.rx_proto.proofs.Writes.{Writes-fault, Writes-then}
use Rattle.rx_http.proofs.answer.written_answer.write_three.Goals as goal

pub returns-in_err-write_bytes : goal.returns-in_err-write_bytes
returns-in_err-write_bytes g c =
    Writes-fault c.from_residual.result _ _ c.args.first.now (c.args.second.now ++ c.args.third.now) c.from_residual.ensures.0 c.in_err-write_bytes.ensures

pub returns-in_err-write_bytes-2 : goal.returns-in_err-write_bytes-2
returns-in_err-write_bytes-2 g c =
    let result = c.from_residual-in_err-write_bytes-2.result in
    let second = c.args.second.now in
    let third = c.args.third.now in
    Writes-then result _ _ _ c.args.first.now (second ++ third) c.in_ok-write_bytes.ensures
    (Writes-fault result _ _ second third c.from_residual-in_err-write_bytes-2.ensures.0 c.in_err-write_bytes-2.ensures)

pub returns : goal.returns
returns g c =
    let result = c.write_bytes-3.result in
    let second = c.args.second.now in
    let third = c.args.third.now in
    Writes-then result _ _ _ c.args.first.now (second ++ third) c.in_ok-write_bytes.ensures
    (Writes-then result _ _ _ second third c.in_ok-write_bytes-2.ensures c.write_bytes-3.ensures)
