use Rattle.std.proofs.Common.{◌++◌, map, map-id, sym, ap, ◌∙◌}
use Rattle.std.proofs.lemmas.Iterator.Consumers.{YieldsList-end}
use Rattle.std.proofs.lemmas.Iterator.Adapters.{YieldsList-from_vec}
use Rattle.rx_note.specs.declared.item.Item.{Item}
use Rattle.rx_history.proofs.Remembering.{remembers_accepted}
use Rattle.rx_history.proofs.past.Past.emit.Goals as goal

pub returns : goal.returns
returns c = λ rules H same accepted was.
    let old = c.args.self.now in
    let moment = c.max-self.result in
    let found = c.in_ok-item-items.item-items in
    let given = c.into_iter-item-iterator.ensures.into_iter_gives in
    let over = YieldsList-end (YieldsList-from_vec found.items given.0 (given.1 ∙ found.ok.0)) c.loop-item.yielded _ c.loop-item.yielded_by c.next.result c.next.new.self c.in-None.is c.next.ensures.steps in
    let all = sym (map-id c.loop-item.yielded) ∙ over.0 ∙ c.in_ok-item-items.ensures in
    remembers_accepted rules old _ H c.args.port c.place-place.result moment c.args.note.now c.args.at accepted (c.place-place.ensures rules H same was) c.in_ok-self.ensures
    c.loop-item.invariant.same_moment c.max-self.ensures
    (c.loop-item.invariant.has_items ∙ ap (λ xs. old.items.items ++ map (λ (item : Item). (item, moment)) xs) all) was
