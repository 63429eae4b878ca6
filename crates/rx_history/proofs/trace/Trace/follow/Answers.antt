use Rattle.std.proofs.Common.{◌≡◌, sym, map-id, ◌∙◌}
use Rattle.std.proofs.lemmas.Iterator.Consumers.{YieldsList-end}
use Rattle.std.proofs.lemmas.Iterator.Adapters.{YieldsList-from_vec}
use Rattle.rx_history.proofs.Tracing.{follows_item, follows_end}
use Rattle.rx_history.proofs.trace.Trace.follow.Goals as goal

pub loop-item-preserved : goal.loop-item-preserved
loop-item-preserved c = record {
  traces = λ s was.
      follows_item _ _ s c.loop-item.yielded c.in-Some.item (c.loop-item.invariant.traces s was) c.in_ok-offer.ensures;
  same_end = c.loop-item.invariant.same_end;
}

pub returns-in-Some-end : goal.returns-in-Some-end
returns-in-Some-end c s was =
    let items = c.args.offers.items in
    let given = c.into_iter-item-iterator.ensures.into_iter_gives in
    let over = YieldsList-end (YieldsList-from_vec items given.0 (given.1 ∙ c.args.offers.ok.0)) c.loop-item.yielded _ c.loop-item.yielded_by c.next.result c.next.new.self c.in-None.is c.next.ensures.steps in
    let all : c.loop-item.yielded ≡ items = sym (map-id c.loop-item.yielded) ∙ over.0 in
    follows_end _ _ s c.loop-item.yielded items c.args.end c.in-Some-end.end all (sym c.loop-item.invariant.same_end ∙ c.in-Some-end.is) (c.loop-item.invariant.traces s was) c.end.ensures
