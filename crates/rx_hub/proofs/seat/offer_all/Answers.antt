use Rattle.std.proofs.Common.{◌++◌, ◌∷◌, ◌≤◌, [], List, length, Option, None, Some, option_to_list, sym, subst, ◌∙◌, arith}
use Rattle.rx_note.specs.declared.note.Note.{Note}
use Rattle.std.proofs.lemmas.List.{length-append, map-append}
use Rattle.rx_note.specs.Signals.{Signal, Offered}
use Rattle.rx_hub.specs.Subscriptions.{Serves}
use Rattle.rx_hub.proofs.Serving.{Serves-then, given-then}
use Rattle.rx_hub.proofs.seat.offer_all.Goals as goal

-- a note that may be there is one at most
one_at_most : (came : Option Note) → length (option_to_list came) ≤ 1
one_at_most None = omega arith
one_at_most (Some note) = omega arith

pub loop-item-preserved : goal.loop-item-preserved
loop-item-preserved c =
    let was = c.loop-item.invariant in
    let first = was.served.0 in
    let then = option_to_list c.offer_own-came.result in
    let yielded = c.loop-item.yielded in
    let one = c.in-Some.item ∷ [] in
    let more = length-append yielded one in
    let By : List Signal → Type 0 = λ signals. Serves c.args.lane.now.state c.offer_own-came.new.lane.state signals (first ++ then) in
    record {
      served = (
        first ++ then,
        given-then c.args.outs.now.items c.loop-item.outs.items c.put.new.outs.items c.args.who first then was.served.1 c.put.ensures.items,
        subst By (sym (map-append Offered yielded one)) (Serves-then _ _ _ _ _ _ _ was.served.2 c.offer_own-came.ensures.serves),
      );
      room = c.offer_own-came.ensures.room;
      len = omega (arith, c.put.ensures.len, one_at_most c.offer_own-came.result, was.len, more);
      capacity = c.put.ensures.capacity ∙ was.capacity;
    }
