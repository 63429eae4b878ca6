use Rattle.std.proofs.Common.{◌∷◌, [], ◌++◌, map, take, drop, sym, ap, ◌∙◌, append_assoc, arith}
use Rattle.std.specs.Prelude.{slice_get}
use Rattle.std.proofs.lemmas.List.{map-append, drop-drop}
use Rattle.rx_note.specs.declared.note.Note.TheVariants.{Next}
use Rattle.rx_lane.specs.Queues.{items_of}
use Rattle.rx_lane.proofs.Moving.{taken-more}
use Rattle.rx_lane.proofs.lane.move_items.Goals as goal

pub loop-preserved : goal.loop-preserved
loop-preserved c =
    let xs = items_of c.args.queue.now in
    let i = c.loop.counter in
    let front = sym c.in-Some.is ∙ c.pop.ensures.value ∙ ap (λ items. slice_get items 0) c.loop.invariant.left in
    record {
      moved =
          c.push_reserved.ensures.items
          ∙ ap (λ notes. notes ++ Next c.in-Some.item ∷ []) c.loop.invariant.moved
          ∙ append_assoc c.args.outs.now.items (map Next (take i xs)) (Next c.in-Some.item ∷ [])
          ∙ ap (λ notes. c.args.outs.now.items ++ notes) (sym (map-append Next (take i xs) (c.in-Some.item ∷ [])))
          ∙ ap (λ items. c.args.outs.now.items ++ map Next items) (sym (taken-more xs i c.in-Some.item front));
      left = c.pop.ensures.items ∙ ap (drop 1) c.loop.invariant.left ∙ drop-drop 1 i xs;
      strategy = c.pop.ensures.strategy ∙ c.loop.invariant.strategy;
      spare = omega (arith, c.pop.ensures.spare, c.loop.invariant.spare);
      capacity = c.push_reserved.ensures.capacity ∙ c.loop.invariant.capacity;
    }
