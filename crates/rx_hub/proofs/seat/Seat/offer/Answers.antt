use Rattle.std.proofs.Common.{◌∷◌, [], List, map, option_to_list, sym, ap, subst, ◌∙◌}
use Rattle.rx_note.specs.declared.note.Note.{Note}
use Rattle.rx_note.specs.declared.note.Note.TheVariants.{Next}
use Rattle.rx_note.specs.Signals.{Offered}
use Rattle.rx_lane.specs.TapeLanes.{lane_on}
use Rattle.rx_hub.specs.declared.seat.Seat.{Seat}
use Rattle.rx_hub.specs.Seats.{lane_of, copy_needed}
use Rattle.rx_hub.specs.Subscriptions.{Serves}
use Rattle.rx_hub.proofs.Serving.{Serves-one, Serves-none}
use Rattle.rx_hub.proofs.seat.Seat.offer.Goals as goal

pub returns-in-Shared-clause-serves : goal.returns-in-Shared-clause-serves
returns-in-Shared-clause-serves c = λ items item tape_is copy_is.
    let lane = c.in-Shared.lane in
    let copied = copy_is ∙ ap (λ (s : Seat). copy_needed s item) c.in-Shared.is in
    let served = Serves-one (lane_on items lane) (lane_on c.offer.new.tape.items c.offer.new.self) (Offered item) (map Next (option_to_list c.offer.result))
    (c.offer.ensures.offers.gives items item tape_is copied) (c.offer.ensures.offers.stands items item tape_is copied) in
    subst (λ (notes : List Note). Serves (lane_of items c.args.self.now) (lane_on c.offer.new.tape.items c.offer.new.self) (Offered item ∷ []) notes) (sym c.note_of.ensures)
    (subst (λ (s : Seat). Serves (lane_of items s) (lane_on c.offer.new.tape.items c.offer.new.self) (Offered item ∷ []) (map Next (option_to_list c.offer.result))) (sym c.in-Shared.is) served)

pub returns-in-None-clause-serves : goal.returns-in-None-clause-serves
returns-in-None-clause-serves c = λ items item tape_is copy_is.
    let lane = c.in-Own.lane in
    let none = sym c.in-None.is ∙ copy_is ∙ ap (λ (s : Seat). copy_needed s item) c.in-Own.is in
    subst (λ (s : Seat). Serves (lane_of items s) lane.state (Offered item ∷ []) []) (sym c.in-Own.is) (Serves-none lane.state item none)
