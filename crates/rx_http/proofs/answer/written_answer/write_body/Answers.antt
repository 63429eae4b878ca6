use Rattle.std.proofs.Common.{codes}
use Rattle.rx_http.proofs.Writes.{Fault-three, Writes-three}
use Rattle.rx_http.proofs.answer.written_answer.write_body.Goals as goal

pub returns-in_err-write_three : goal.returns-in_err-write_three
returns-in_err-write_three g c =
    let front = rw c.error.ensures.bytes at c.in_err-write_three.ensures in
    Fault-three c.from_residual.result _ _ (codes "{\"error\":\"") _ (codes "\",\"text\":\"") _ c.from_residual.ensures.0 front

pub returns : goal.returns
returns g c =
    let front = rw c.error.ensures.bytes at c.in_ok-write_three.ensures in
    let back = rw c.advice.ensures.bytes at c.write_three-2.ensures in
    Writes-three c.write_three-2.result _ _ _ (codes "{\"error\":\"") _ (codes "\",\"text\":\"") _ front back
