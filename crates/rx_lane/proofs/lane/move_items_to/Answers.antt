use Rattle.std.proofs.Common.{sym, ap, ◌∙◌, arith}
use Rattle.std.specs.Prelude.{drop, slice_get}
use Rattle.std.proofs.lemmas.List.{drop-drop}
use Rattle.rx_lane.specs.Queues.{items_of}
use Rattle.rx_lane.proofs.Moving.{taken-more}
use Rattle.rx_lane.proofs.Shared.{put_more}
use Rattle.rx_lane.proofs.lane.move_items_to.Goals as goal

pub loop-preserved : goal.loop-preserved
loop-preserved c =
    let xs = items_of c.args.queue.now in
    let i = c.loop.counter in
    let front = sym c.in-Some.is ∙ c.pop.ensures.value ∙ ap (λ items. slice_get items 0) c.loop.invariant.left in
    record {
      moved = put_more c.args.who xs i c.in-Some.item c.args.outs.now.items c.loop.outs.items c.push_reserved.new.self.items
          (taken-more xs i c.in-Some.item front) c.loop.invariant.moved c.push_reserved.ensures.items;
      left = c.pop.ensures.items ∙ ap (drop 1) c.loop.invariant.left ∙ drop-drop 1 i xs;
      strategy = c.pop.ensures.strategy ∙ c.loop.invariant.strategy;
      spare = omega (arith, c.pop.ensures.spare, c.loop.invariant.spare);
      len = omega (arith, c.push_reserved.ensures.len, c.loop.invariant.len);
      capacity = c.push_reserved.ensures.capacity ∙ c.loop.invariant.capacity;
    }
