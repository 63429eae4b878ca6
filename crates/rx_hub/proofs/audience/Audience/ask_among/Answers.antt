use Rattle.std.proofs.Common.{◌≡◌, ◌<◌, false, List, length, get_or, set, sym, ap, subst, ◌∙◌, arith}
use Rattle.std.proofs.lemmas.List.{length-map, map-set}
use Rattle.rx_note.specs.declared.item.Item.{Item}
use Rattle.rx_lane.specs.Lanes.{RefusesRequest}
use Rattle.rx_hub.specs.Seats.{Stands}
use Rattle.rx_hub.specs.Subscriptions.{Observer, AsksInto}
use Rattle.rx_hub.specs.Audiences.{AudienceState, Place, AllOn, Apart, cursors, place_of, places_of, observer_on, observers_on}
use Rattle.rx_hub.specs.Subscriptions.{AsksInto, AsksAt}
use Rattle.rx_hub.proofs.Idle.{idle_set}
use Rattle.rx_hub.proofs.Outcomes.{on_ok, on_err}
use Rattle.rx_hub.proofs.Places.{observers-length, place-at, observer-at, set_on, set_cursors, set_observers, set_unchanged, apart_same}
use Rattle.rx_hub.proofs.Tight.{owned_moved, owned_same}
use Rattle.rx_hub.proofs.audience.Audience.ask_among.Goals as goal

pub ask-requires : goal.ask-requires
ask-requires c =
    let a = c.self.inside in
    let subs = a.subscriptions.items in
    let k = c.args.place in
    let one = c.index_mut.result.now in
    let lt : k < length subs = omega (arith, c.requires, ap (λ (v : AudienceState). length v.observers) c.self.view_is, observers-length a.tape.items subs) in
    subst (λ (p : Place). Stands a.tape false p.seat) (place-at subs k one (place_of one) lt c.index_mut.ensures.value)
    (c.self.invariant.0 k (place_of one) (omega (arith, lt, length-map subs place_of)))

pub invariant_of-self : goal.invariant_of-self
invariant_of-self c =
    let a = c.self.inside in
    let subs = a.subscriptions.items in
    let k = c.args.place in
    let old = c.index_mut.result.now in
    let new = c.ask.new.self in
    let lt : k < length subs = omega (arith, c.requires, ap (λ (v : AudienceState). length v.observers) c.self.view_is, observers-length a.tape.items subs) in
    let at : place_of old ≡ get_or (places_of subs) k (place_of old) = sym (place-at subs k old (place_of old) lt c.index_mut.ensures.value) in
    let sets : places_of (set subs k new) ≡ set (places_of subs) k (place_of new) = map-set place_of subs k new in (
      subst (λ (ps : List Place). AllOn c.ask.new.tape false ps) (sym sets)
          (set_on a.tape c.ask.new.tape (places_of subs) k (place_of old) (place_of new) c.self.invariant.1 (omega (arith, lt, length-map subs place_of)) at c.ask.ensures.leaves c.ask.ensures.stands c.self.invariant.0),
      subst (λ (ps : List Place). Apart ps) (sym sets)
          (apart_same (places_of subs) (set (places_of subs) k (place_of new)) (set_cursors (places_of subs) k (place_of old) (place_of new) at c.ask.ensures.cursor) c.self.invariant.1),
      owned_same c.ask.new.tape (places_of subs) (places_of (set subs k new)) (ap cursors sets ∙ set_cursors (places_of subs) k (place_of old) (place_of new) at c.ask.ensures.cursor)
          (owned_moved a.tape c.ask.new.tape (places_of subs) k (place_of old) (omega (arith, lt, length-map subs place_of)) at c.ask.ensures.leaves c.self.invariant.2),
      idle_set subs k old new lt c.index_mut.ensures.value c.ask.ensures.ready c.self.invariant.3,
    )

pub returns-clause-refuses : goal.returns-clause-refuses
returns-clause-refuses c = λ default.
    let a = c.self.inside in
    let subs = a.subscriptions.items in
    let k = c.args.place in
    let one = c.index_mut.result.now in
    let lt : k < length subs = omega (arith, c.requires, ap (λ (v : AudienceState). length v.observers) c.self.view_is, observers-length a.tape.items subs) in
    let seen = ap (λ (v : AudienceState). get_or v.observers k default) (sym c.self.view_is) ∙ observer-at a.tape.items subs k one default lt c.index_mut.ensures.value in
    subst (λ (o : Observer). RefusesRequest o.lane.owing c.args.n c.ask.result) (sym seen) c.ask.ensures.refuses

pub returns-clause-err : goal.returns-clause-err
returns-clause-err c =
    let a = c.self.inside in
    let subs = a.subscriptions.items in
    let k = c.args.place in
    let old = c.index_mut.result.now in
    let new = c.ask.new.self in
    let later = c.ask.new.tape.items in
    let lt : k < length subs = omega (arith, c.requires, ap (λ (v : AudienceState). length v.observers) c.self.view_is, observers-length a.tape.items subs) in
    on_err c.ask.result
    (λ (known : (observer_on later (place_of new) ≡ observer_on a.tape.items (place_of old)) × (c.ask.new.outs.items ≡ c.args.outs.now.items)). (
      ap (λ (items : List Item). record { items = items; observers = observers_on later (places_of (set subs k new)) }) c.ask.ensures.leaves.items
          ∙ ap (λ (os : List Observer). record { items = a.tape.items; observers = os }) (set_unchanged a.tape.items later subs k old new c.ask.ensures.leaves.items lt c.index_mut.ensures.value known.0)
          ∙ c.self.view_is,
      known.1,
    ))
    c.ask.ensures.err

pub returns-clause-asked : goal.returns-clause-asked
returns-clause-asked c =
    let a = c.self.inside in
    let subs = a.subscriptions.items in
    let k = c.args.place in
    let old = c.index_mut.result.now in
    let new = c.ask.new.self in
    let later = c.ask.new.tape.items in
    let before = c.args.outs.now.items in
    let after = c.ask.new.outs.items in
    let lt : k < length subs = omega (arith, c.requires, ap (λ (v : AudienceState). length v.observers) c.self.view_is, observers-length a.tape.items subs) in
    on_ok c.ask.result
    (λ (asked : AsksInto (observer_on a.tape.items (place_of old)) (observer_on later (place_of new)) c.args.n before after) (default : Observer).
    let seen = ap (λ (v : AudienceState). get_or v.observers k default) (sym c.self.view_is) ∙ observer-at a.tape.items subs k old default lt c.index_mut.ensures.value in
    let made : AsksAt c.args.self.now.observers (observers_on later (places_of (set subs k new))) k default c.args.n before after = record {
      observer = observer_on later (place_of new);
      news_are =
          set_observers a.tape.items later subs k new c.ask.ensures.leaves.items
          ∙ ap (λ (v : AudienceState). set v.observers k (observer_on later (place_of new))) c.self.view_is;
      asks = subst (λ (o : Observer). AsksInto o (observer_on later (place_of new)) c.args.n before after) (sym seen) asked;
    } in made)
    c.ask.ensures.asked
