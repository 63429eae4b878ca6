use Rattle.std.proofs.Common.{◌∙◌, sym, subst, arith}
use Rattle.std.proofs.lemmas.Bool.{false≢true}
use Rattle.std.proofs.lemmas.List.{take_all}
use Rattle.rx_proto.proofs.Named.{AreOfName, named_read-other, named_read-whole}
use Rattle.rx_proto.proofs.words.named.Goals as goal

pub returns-then-not-is_name_byte : goal.returns-then-not-is_name_byte
returns-then-not-is_name_byte c =
    named_read-other c.args.bytes.now c.loop-len.len (omega arith) c.loop-len.invariant c.if-byte-eq-SPACE.false
    (λ is. false≢true (sym c.if-not-is_name_byte.true ∙ c.is_name_byte.ensures.1 is))

pub returns : goal.returns
returns c = named_read-whole c.args.bytes.now (subst AreOfName (take_all c.loop-len.len c.args.bytes.now (omega arith)) c.loop-len.invariant)
