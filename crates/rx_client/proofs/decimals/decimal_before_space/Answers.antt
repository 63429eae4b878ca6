use Rattle.std.proofs.Common.{◌∙◌, sym, ap, arith, decimal}
use Rattle.rx_proto.proofs.Cuts.{cut_read-parted}
use Rattle.rx_proto.specs.Reading.{cut_read}
use Rattle.rx_client.proofs.Digits.{decimal-no_space, same-word}
use Rattle.rx_client.proofs.decimals.decimal_before_space.Goals as goal

pub returns-in_default-clause-none : goal.returns-in_default-clause-none
returns-in_default-clause-none c = λ n rest fits same.
    cc (cut_read-parted (decimal n) rest (decimal-no_space n (omega arith)), ap cut_read same, c.in_default.ensures.read)

pub returns-in-None-clause-none : goal.returns-in-None-clause-none
returns-in-None-clause-none c = λ n rest fits same.
    let read = sym (cut_read-parted (decimal n) rest (decimal-no_space n (omega arith))) ∙ ap cut_read same ∙ c.in-Some.ensures.read in
    c.in-None.ensures.none n fits (same-word (decimal n) c.in-Some.word.now rest c.in-Some.rest.now read)
