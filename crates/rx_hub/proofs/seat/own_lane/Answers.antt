use Rattle.std.proofs.Common.{◌++◌, List, map, ap, subst, ◌∙◌}
use Rattle.rx_note.specs.declared.item.Item.{Item}
use Rattle.rx_note.specs.Signals.{Offered}
use Rattle.rx_history.specs.Histories.{addressed}
use Rattle.rx_hub.specs.Subscriptions.{Begins}
use Rattle.rx_hub.proofs.Serving.{begun}
use Rattle.rx_hub.proofs.seat.own_lane.Goals as goal

pub returns-clause-begins : goal.returns-clause-begins
returns-clause-begins c =
    let served = c.offer_all.ensures.serves in (
      served.0,
      served.1 ∙ ap (λ os. os ++ addressed c.args.joiner.who served.0) c.in_ok-reserve.ensures.items,
      subst (λ (items : List Item). Begins c.offer_all.new.lane.state c.args.joiner.policy c.args.joiner.first (map Offered items) served.0) c.in_ok-items.ensures
          (begun c.in_ok-lane.lane.state c.offer_all.new.lane.state c.args.joiner.policy c.args.joiner.first (map Offered c.in_ok-items.items.items) served.0 c.in_ok-lane.ensures served.2),
    )
