use Rattle.std.proofs.Common.{◌∷◌, [], ◌++◌, map, take, sym, ap, ◌∙◌, append_assoc, arith}
use Rattle.std.proofs.lemmas.List.{map-append}
use Rattle.rx_note.specs.declared.item.Item.{Item}
use Rattle.rx_note.specs.declared.note.Note.TheVariants.{Next}
use Rattle.rx_tape.specs.Tapes.{waits}
use Rattle.rx_lane.proofs.Shared.{copied}
use Rattle.rx_tape.proofs.Lasts.{waits-length}
use Rattle.rx_lane.proofs.waiting.Waiting.copy_out.Goals as goal

pub loop-place-preserved : goal.loop-place-preserved
loop-place-preserved c =
    let self = c.args.self.now in
    let tape = c.args.tape.now in
    let xs = waits self.lead tape.items self.back in
    let i = c.loop-place.place in
    let item = c.in-Some.item.now in
    let long = waits-length self.lead tape.items self.back (λ some. (c.requires.stands some).within) in
    let is = c.in-Some.ensures (omega (arith, c.loop-place-test.true, c.requires.there)) in
    let more = copied xs i item (omega (arith, long, c.loop-place-test.true, c.requires.there)) (sym is) in
    record {
      put =
          c.push_reserved.ensures.items
          ∙ ap (λ (next : Item). c.loop-place.outs.items ++ Next next ∷ []) c.in_ok-copy.ensures
          ∙ ap (λ notes. notes ++ Next item ∷ []) c.loop-place.invariant.put
          ∙ append_assoc c.args.outs.now.items (map Next (take i xs)) (Next item ∷ [])
          ∙ ap (λ notes. c.args.outs.now.items ++ notes) (sym (map-append Next (take i xs) (item ∷ [])))
          ∙ ap (λ items. c.args.outs.now.items ++ map Next items) (sym more);
      capacity = c.push_reserved.ensures.capacity ∙ c.loop-place.invariant.capacity;
    }
