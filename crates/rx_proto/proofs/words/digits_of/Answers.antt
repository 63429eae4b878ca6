use Rattle.std.proofs.Common.{◌∙◌, sym, arith}
use Rattle.rx_proto.proofs.Numbers.{digits_read-over}
use Rattle.rx_proto.proofs.words.digits_of.Goals as goal

pub returns-in_default : goal.returns-in_default
returns-in_default c =
    let digit = sym c.is_digit.ensures ∙ c.if-not-is_digit.false in
    sym (digits_read-over c.args.bytes.now c.loop-digit.value c.loop-digit.digit-index (omega arith) digit c.in_default.ensures.none) ∙ c.loop-digit.invariant.1
