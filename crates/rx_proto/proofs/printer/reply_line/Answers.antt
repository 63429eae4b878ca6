-- The line that tells of a joined observer has the digits of its number, which stand at the end of the array.
use Rattle.std.proofs.Common.{◌≡◌, ◌-◌, take, drop, arith, rules}
use Rattle.std.proofs.lemmas.List.{length-drop, take_all}
use Rattle.rx_proto.proofs.printer.reply_line.Goals as goal

pub returns-in-Joined : goal.returns-in-Joined
returns-in-Joined c =
    let start = c.write_digits-start.result in
    let digits = c.write_digits-start.new.digits in
    let all : take (10 - start) (drop start digits) ≡ drop start digits = take_all (10 - start) (drop start digits) (omega (arith, length-drop start digits)) in
    search rules
