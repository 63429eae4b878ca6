use Rattle.std.proofs.Common.{◌∙◌, decimal}
use Rattle.rx_proto.proofs.Writes.{Writes-fault, Writes-then}
use Rattle.rx_server.proofs.close.report_lines.write_number.Goals as goal

pub returns-in_err-write_bytes : goal.returns-in_err-write_bytes
returns-in_err-write_bytes g c = Writes-fault c.from_residual.result _ _ c.args.key.now (decimal c.args.number) c.from_residual.ensures.0 c.in_err-write_bytes.ensures

pub returns : goal.returns
returns g c =
    rw (← (c.as_bytes.ensures.value ∙ c.format.ensures.text)) (Writes-then c.write_bytes-2.result _ _ _ c.args.key.now _ c.in_ok-write_bytes.ensures c.write_bytes-2.ensures)
