-- A number has one spelling: what it is written as again is what was read.
use Rattle.std.proofs.Common.{◌≡◌, decimal, sym, ap, ◌∙◌, arith}
use Rattle.std.proofs.lemmas.Fmt.{parse-decimal, IsAscii-decimal}
use Rattle.std.proofs.lemmas.Str.{IsUtf8-from_ascii}
use Rattle.std.specs.Str.{IsUtf8}
use Rattle.rx_client.proofs.Digits.{written_is}
use Rattle.rx_client.proofs.decimals.decimal_of.Goals as goal
use lib.Pointwise.{bytes_decides}

pub returns-in_default-clause-none : goal.returns-in_default-clause-none
returns-in_default-clause-none c = λ n fits same.
    let text : IsUtf8 c.args.word.now = rw (← same) (IsUtf8-from_ascii (decimal n) (IsAscii-decimal n (omega arith))) in
    c.in_default.ensures.cases.0 text

pub returns-in_default-from_str_radix-clause-none : goal.returns-in_default-from_str_radix-clause-none
returns-in_default-from_str_radix-clause-none c = λ n fits same.
    cc (parse-decimal 32 n _ _ (omega arith) (omega arith) (c.in-Ok.ensures.cases.0 ∙ sym same) c.from_str_radix.ensures.value)

pub returns-then-eq-clause-some : goal.returns-then-eq-clause-some
returns-then-eq-clause-some c =
    sym (written_is c.write_digits-start.new.digits _ c.write_digits-start.result c.write_digits-start.array_long c.write_digits-start.ensures.digits)
    ∙ (bytes_decides _ _).0 (sym c.eq.ensures ∙ c.if-eq.true)

pub returns-else-eq-clause-none : goal.returns-else-eq-clause-none
returns-else-eq-clause-none c = λ n fits same.
    let read = parse-decimal 32 n _ _ (omega arith) (omega arith) (c.in-Ok.ensures.cases.0 ∙ sym same) c.from_str_radix.ensures.value in
    let number : c.in-Ok-from_str_radix.number ≡ n = cc read in
    let again = written_is c.write_digits-start.new.digits _ c.write_digits-start.result c.write_digits-start.array_long c.write_digits-start.ensures.digits
    ∙ ap decimal number ∙ same in
    let yes = (bytes_decides _ _).1 again in
    cc (yes, c.eq.ensures, c.if-eq.false)
