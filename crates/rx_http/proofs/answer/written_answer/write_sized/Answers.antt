use Rattle.std.proofs.Common.{length}
use Rattle.rx_http.specs.Answers.{sized_head}
use Rattle.rx_proto.proofs.Writes.{Writes-fault, Writes-then}
use Rattle.rx_http.proofs.answer.written_answer.write_sized.Goals as goal

pub returns-in_err-write_head : goal.returns-in_err-write_head
returns-in_err-write_head g c =
    let head = sized_head c.args.status.now c.args.kind.now c.args.fields.now (length c.args.body.now) in
    Writes-fault c.from_residual.result _ _ head c.args.body.now c.from_residual.ensures.0 c.in_err-write_head.ensures

pub returns : goal.returns
returns g c =
    let head = sized_head c.args.status.now c.args.kind.now c.args.fields.now (length c.args.body.now) in
    Writes-then c.write_bytes.result _ _ _ head c.args.body.now c.in_ok-write_head.ensures c.write_bytes.ensures
