-- A number has one spelling: what it is written as again is what was read.
use Rattle.std.proofs.Common.{◌≡◌, decimal, sym, ap, ◌∙◌, arith}
use Rattle.std.proofs.lemmas.Fmt.{parse-decimal, IsAscii-decimal}
use Rattle.std.proofs.lemmas.Str.{IsUtf8-from_ascii}
use Rattle.std.specs.Str.{IsUtf8}
use Rattle.rx_http.proofs.Digits.{written_is}
use Rattle.rx_http.proofs.number.number_of.Goals as goal
use lib.Pointwise.{bytes_decides}

pub returns-in_default : goal.returns-in_default
returns-in_default c = λ n fits same.
    let text : IsUtf8 c.args.digits.now = rw same (IsUtf8-from_ascii (decimal n) (IsAscii-decimal n (omega arith))) in
    c.in_default.ensures.cases.0 text

pub returns-in_default-from_str_radix : goal.returns-in_default-from_str_radix
returns-in_default-from_str_radix c = λ n fits same.
    cc (parse-decimal 32 n _ _ (omega arith) (omega arith) (c.in-Ok.ensures.cases.0 ∙ same) c.from_str_radix.ensures.value)

pub returns-then-eq : goal.returns-then-eq
returns-then-eq c = (
  omega (arith, c.in-Ok-from_str_radix.ensures.value),
  sym ((bytes_decides _ _).0 (sym c.eq.ensures ∙ c.if-eq.true))
      ∙ written_is c.write_digits-start.new.digits _ c.write_digits-start.result c.write_digits-start.array_long c.write_digits-start.ensures.digits,
)

pub returns-else-eq : goal.returns-else-eq
returns-else-eq c = λ n fits same.
    let read = parse-decimal 32 n _ _ (omega arith) (omega arith) (c.in-Ok.ensures.cases.0 ∙ same) c.from_str_radix.ensures.value in
    let number : c.in-Ok-from_str_radix.number ≡ n = cc read in
    let again = written_is c.write_digits-start.new.digits _ c.write_digits-start.result c.write_digits-start.array_long c.write_digits-start.ensures.digits
    ∙ ap decimal number ∙ sym same in
    let yes = (bytes_decides _ _).1 again in
    cc (yes, c.eq.ensures, c.if-eq.false)
