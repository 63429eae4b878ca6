use Rattle.std.proofs.Common.{arith, ◌/◌}
use Rattle.std.proofs.lemmas.Fmt.{decimal_digit, decimal_step}
use Rattle.rx_script.proofs.printed_note.push_decimal.Goals as goal

pub returns-then-number-lt10-clause-digits : goal.returns-then-number-lt10-clause-digits
returns-then-number-lt10-clause-digits c = rw (decimal_digit c.args.number c.if-number-lt10.true) c.push.ensures

pub returns-then-number-lt100-clause-digits : goal.returns-then-number-lt100-clause-digits
returns-then-number-lt100-clause-digits c =
    let two = decimal_step c.args.number (omega (arith, c.if-number-lt10.false)) (omega (arith, c.if-number-lt100.true)) in
    let tens = decimal_digit (c.args.number / 10) (omega (arith, c.if-number-lt100.true)) in
    rw (two, tens) c.push-then-number-lt100.ensures
