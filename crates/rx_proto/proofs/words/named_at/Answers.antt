use Rattle.std.proofs.Common.{◌+◌, ◌∙◌, Ok, take, sym, ap, arith}
use Rattle.std.proofs.lemmas.List.{take_rest}
use Rattle.rx_proto.proofs.Named.{named_read-here, named_read-size}
use Rattle.rx_proto.proofs.words.named_at.Goals.{then-len-eq0-via-then-len-eq0, then-len-eq0-via-else-len-eq0+then-len-gt-MAX_NAME}
use Rattle.rx_proto.proofs.words.named_at.Goals as goal

pub returns-then-len-eq0 : goal.returns-then-len-eq0
returns-then-len-eq0 c =
    named_read-size c.args.bytes.now c.args.len c.requires.within c.requires.each c.requires.space
    (λ sizes. elim c.then-len-eq0.branch [ then-len-eq0-via-then-len-eq0 w ↦ omega (arith, w.if-len-eq0.true, sizes.0) | then-len-eq0-via-else-len-eq0+then-len-gt-MAX_NAME w ↦ omega (arith, w.if-len-gt-MAX_NAME.true, sizes.1) ])

pub returns : goal.returns
returns c =
    let bytes = c.args.bytes.now in
    let len = c.args.len in
    named_read-here bytes len c.requires.within c.requires.each c.requires.space (omega arith) (omega arith)
    ∙ ap (λ rest. Ok (take len bytes, rest)) (sym (take_rest bytes (len + 1)))
