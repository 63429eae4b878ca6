use Rattle.std.proofs.Common.{◌<◌, ◌∷◌, [], Option, map, sym, subst}
use Rattle.std.specs.Prelude.{option_to_list}
use Rattle.rx_note.specs.declared.item.Item.{Item}
use Rattle.rx_note.specs.declared.note.Note.TheVariants.{Next}
use Rattle.rx_note.specs.Signals.{Offered}
use Rattle.rx_lane.specs.TapeLanes.{lane_on}
use Rattle.rx_lane.proofs.Followed.{copy_owed}
use Rattle.rx_hub.specs.declared.seat.Seat.{Seat}
use Rattle.rx_hub.specs.declared.seat.Seat.TheVariants.{Own}
use Rattle.rx_hub.specs.Seats.{lane_of, owing_of, given_now}
use Rattle.rx_hub.specs.Subscriptions.{Serves}
use Rattle.rx_hub.proofs.Serving.{Serves-one}
use Rattle.rx_hub.proofs.seat.Seat.pass_owed.Goals as goal

pub returns-in-Shared-clause-serves : goal.returns-in-Shared-clause-serves
returns-in-Shared-clause-serves c = λ items item.
    let lane = c.in-Shared.lane in
    let old = lane_on items lane in
    let new = lane_on items c.pass_owed.new.self in
    let owed : 0 < lane.owing = subst (λ (s : Seat). 0 < owing_of s) c.in-Shared.is c.requires.owed in
    let served = Serves-one old new (Offered item) (Next item ∷ []) (c.pass_owed.ensures.gives items item) (c.pass_owed.ensures.stands items item) in
    subst (λ (s : Seat). Serves (lane_of items s) new (Offered item ∷ []) (given_now s item)) (sym c.in-Shared.is)
    (subst (λ (o : Option Item). Serves old new (Offered item ∷ []) (map Next (option_to_list o))) (sym (copy_owed lane.owing item owed)) served)

pub returns-in-Own-clause-serves : goal.returns-in-Own-clause-serves
returns-in-Own-clause-serves c = λ items item.
    let lane = c.in-Own.lane in
    let new = c.pass.new.self.state in
    let owed : 0 < owing_of (Own lane) = subst (λ (s : Seat). 0 < owing_of s) c.in-Own.is c.requires.owed in
    let served = Serves-one lane.state new (Offered item) (Next item ∷ []) (c.pass.ensures.gives item) (c.pass.ensures.stands item) in
    subst (λ (s : Seat). Serves (lane_of items s) new (Offered item ∷ []) (given_now s item)) (sym c.in-Own.is)
    (subst (λ (o : Option Item). Serves lane.state new (Offered item ∷ []) (map Next (option_to_list o))) (sym (copy_owed (owing_of (Own lane)) item owed)) served)
