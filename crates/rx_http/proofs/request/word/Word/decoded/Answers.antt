-- What was decoded and what is to come are the word.
use Rattle.std.proofs.Common.{◌+◌, ◌∷◌, ◌++◌, [], take, length, length-append, length-take, ap, sym, ◌∙◌, refl, append_assoc, arith}
use Rattle.std.proofs.lemmas.Grind.{take-set_at}
use Rattle.std.proofs.lemmas.List.{length-set}
use Rattle.percent_encoding.specs.Iter.{decoded_bytes}
use Rattle.rx_http.proofs.request.word.Word.decoded.Goals as goal

pub returns-then-len-eq-MAX_WORD : goal.returns-then-len-eq-MAX_WORD
returns-then-len-eq-MAX_WORD c = λ few.
    let size = ap length c.loop-byte.invariant.parts in
    let more = ap length c.in-Some.ensures.steps in
    let whole = length-append (take c.loop-byte.len c.loop-byte.bytes) (decoded_bytes c.loop-byte.byte-iterator) in
    let front = length-take c.loop-byte.len c.loop-byte.bytes in
    omega (arith, size, more, whole, front)

pub loop-byte-preserved : goal.loop-byte-preserved
loop-byte-preserved c = record {
  can = tt;
  finite = tt;
  within = omega arith;
  long = length-set c.loop-byte.bytes c.loop-byte.len c.in-Some.byte ∙ c.loop-byte.invariant.long;
  parts =
      ap (λ l. l ++ decoded_bytes c.next.new.self) (take-set_at c.loop-byte.bytes c.loop-byte.len (c.loop-byte.len + 1) c.in-Some.byte refl (omega arith))
      ∙ append_assoc (take c.loop-byte.len c.loop-byte.bytes) (c.in-Some.byte ∷ []) (decoded_bytes c.next.new.self)
      ∙ ap (λ l. take c.loop-byte.len c.loop-byte.bytes ++ l) (sym c.in-Some.ensures.steps)
      ∙ c.loop-byte.invariant.parts;
}
