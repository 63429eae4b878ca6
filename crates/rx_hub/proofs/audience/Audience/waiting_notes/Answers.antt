use Rattle.std.proofs.Common.{◌<◌, false, length, get_or, sym, ap, subst, ◌∙◌, arith}
use Rattle.std.proofs.lemmas.List.{length-map}
use Rattle.rx_lane.specs.Lanes as lanes
use Rattle.rx_hub.specs.Seats.{Stands}
use Rattle.rx_hub.specs.Subscriptions.{Observer}
use Rattle.rx_hub.specs.Audiences.{AudienceState, Place, place_of}
use Rattle.rx_hub.proofs.Places.{place-at, observer-at, observers-length}
use Rattle.rx_hub.proofs.audience.Audience.waiting_notes.Goals as goal

pub returns : goal.returns
returns c = λ default s stands.
    let a = c.self.inside in
    let subs = a.subscriptions.items in
    let one = c.index.result.now in
    let lt : c.args.place < length subs = omega (arith, c.requires, ap (λ (v : AudienceState). length v.observers) c.self.view_is, observers-length a.tape.items subs) in
    let seen = ap (λ (v : AudienceState). get_or v.observers c.args.place default) (sym c.self.view_is) ∙ observer-at a.tape.items subs c.args.place one default lt c.index.ensures in
    let on = c.self.invariant.0 c.args.place (place_of one) (omega (arith, lt, length-map subs place_of)) in
    c.waiting_notes.ensures.waiting a.tape s
    (subst (λ (p : Place). Stands a.tape false p.seat) (place-at subs c.args.place one (place_of one) lt c.index.ensures) on)
    (subst (λ (o : Observer). lanes.StandsFor o.lane s) seen stands)
