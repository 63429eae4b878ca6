use Rattle.std.proofs.Common.{◌∷◌, [], sym, subst}
use Rattle.rx_note.specs.Signals.{Offered}
use Rattle.rx_lane.specs.TapeLanes.{lane_on}
use Rattle.rx_hub.specs.declared.seat.Seat.{Seat}
use Rattle.rx_hub.specs.declared.seat.Seat.TheVariants.{Shared}
use Rattle.rx_hub.specs.Seats.{lane_of, given_now}
use Rattle.rx_hub.specs.Subscriptions.{Serves}
use Rattle.rx_hub.proofs.Serving.{Serves-one}
use Rattle.rx_hub.proofs.seat.Seat.pass.Goals as goal

pub returns-in-Shared-clause-serves : goal.returns-in-Shared-clause-serves
returns-in-Shared-clause-serves c = λ items item tape_is held.
    let lane = c.in-Shared.lane in
    let new = lane_on c.pass.new.tape.items c.pass.new.self in
    let served = Serves-one (lane_on items lane) new (Offered item) (given_now (Shared lane) item)
    (c.pass.ensures.passes.gives items item tape_is) (c.pass.ensures.passes.stands items item tape_is) in
    subst (λ (s : Seat). Serves (lane_of items s) new (Offered item ∷ []) (given_now s item)) (sym c.in-Shared.is) served
