use Rattle.std.proofs.Common.{◌+◌, ◌-◌, ◌<◌, ◌∷◌, [], ◌++◌, length, sym, ap, ◌∙◌, arith}
use Rattle.std.specs.Prelude.{slice_get}
use Rattle.std.proofs.lemmas.List.{length-drop}
use Rattle.rx_note.specs.declared.item.Item.{Item}
use Rattle.rx_note.specs.declared.note.Note.TheVariants.{Next}
use Rattle.rx_tape.specs.Tapes.{last_items}
use Rattle.rx_lane.specs.Lanes.{addressed}
use Rattle.rx_lane.proofs.Shared.{copied, last_at, put_more}
use Rattle.rx_lane.proofs.waiting.copy_items.Goals as goal

pub loop-place-preserved : goal.loop-place-preserved
loop-place-preserved c =
    let items = c.args.tape.now.items in
    let back = c.args.back in
    let who = c.args.who in
    let before = c.args.outs.now.items in
    let i = c.loop-place.place in
    let item = c.in-Some.item.now in
    let lasts = last_items items back in
    let lt : i < length lasts = omega (arith, length-drop (length items - back) items, c.loop-place-test.true, c.requires.within, c.requires.there) in
    let is = last_at items back i item (ap (λ n. slice_get items (n - back + i)) (sym c.len.ensures.len) ∙ sym c.in-Some.ensures) in
    let more = copied lasts i item lt is in
    record {
      put = put_more who lasts i item before c.loop-place.outs.items c.push_reserved.new.self.items more c.loop-place.invariant.put
          (c.push_reserved.ensures.items ∙ ap (λ (next : Item). c.loop-place.outs.items ++ addressed who (Next next ∷ [])) c.in_ok-copy.ensures);
      capacity = c.push_reserved.ensures.capacity ∙ c.loop-place.invariant.capacity;
    }
