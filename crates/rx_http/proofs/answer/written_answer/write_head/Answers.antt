-- The head goes in three times three pieces.
use Rattle.std.proofs.Common.{codes, decimal}
use Rattle.rx_http.proofs.Digits.{written_is}
use Rattle.rx_http.proofs.Writes.{Fault-three, Writes-three}
use Rattle.rx_http.proofs.answer.written_answer.write_head.Goals as goal

pub returns-in_err-write_three : goal.returns-in_err-write_three
returns-in_err-write_three g c =
    Fault-three c.from_residual.result _ _ (codes "HTTP/1.1 ") c.args.status.now (codes "\r\nContent-Type: ") _ c.from_residual.ensures.0 c.in_err-write_three.ensures

pub returns-in_err-write_three-2 : goal.returns-in_err-write_three-2
returns-in_err-write_three-2 g c =
    let result = c.from_residual-in_err-write_three-2.result in
    let digits = written_is c.write_digits-start.new.digits _ c.write_digits-start.result c.write_digits-start.array_long c.write_digits-start.ensures.digits in
    let front = rw digits at c.in_err-write_three-2.ensures in
    Writes-three result _ _ _ (codes "HTTP/1.1 ") c.args.status.now (codes "\r\nContent-Type: ") _ c.in_ok-write_three.ensures
    (Fault-three result _ _ c.args.kind.now (codes "\r\nContent-Length: ") (decimal c.args.len) _ c.from_residual-in_err-write_three-2.ensures.0 front)

pub returns : goal.returns
returns g c =
    let result = c.write_three-3.result in
    let digits = written_is c.write_digits-start.new.digits _ c.write_digits-start.result c.write_digits-start.array_long c.write_digits-start.ensures.digits in
    let told = rw digits at c.in_ok-write_three-2.ensures in
    Writes-three result _ _ _ (codes "HTTP/1.1 ") c.args.status.now (codes "\r\nContent-Type: ") _ c.in_ok-write_three.ensures
    (Writes-three result _ _ _ c.args.kind.now (codes "\r\nContent-Length: ") (decimal c.args.len) _ told c.write_three-3.ensures)
