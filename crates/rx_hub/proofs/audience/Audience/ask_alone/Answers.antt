use Rattle.std.proofs.Common.{◌≡◌, ◌<◌, false, List, length, get_or, set, sym, ap, subst, ◌∙◌, arith}
use Rattle.std.proofs.lemmas.List.{length-map, map-set}
use Rattle.rx_note.specs.declared.item.Item.{Item}
use Rattle.rx_lane.specs.Lanes.{RefusesRequest}
use Rattle.rx_hub.specs.Seats.{Stands}
use Rattle.rx_hub.specs.Subscriptions.{Observer, AsksInto, AsksAt}
use Rattle.rx_hub.specs.Audiences.{AudienceState, Place, AllOn, Apart, Owned, place_of, places_of, observer_on, observers_on}
use Rattle.rx_hub.proofs.Alone.{alone, owned_alone, alone_on, alone_observers}
use Rattle.rx_hub.proofs.Idle.{idle_set}
use Rattle.rx_hub.proofs.Outcomes.{on_ok, on_err}
use Rattle.rx_hub.proofs.Places.{observers-length, place-at, observer-at, set_cursors, set_unchanged, apart_same}
use Rattle.rx_hub.proofs.audience.Audience.ask_alone.Goals as goal

pub ask_alone-requires-clause-stands : goal.ask_alone-requires-clause-stands
ask_alone-requires-clause-stands c =
    let a = c.self.inside in
    let subs = a.subscriptions.items in
    let k = c.args.place in
    let one = c.index_mut.result.now in
    let lt : k < length subs = omega (arith, c.requires.place, ap (λ (v : AudienceState). length v.observers) c.self.view_is, observers-length a.tape.items subs) in
    subst (λ (p : Place). Stands a.tape false p.seat) (place-at subs k one (place_of one) lt c.index_mut.ensures.value)
    (c.self.invariant.0 k (place_of one) (omega (arith, lt, length-map subs place_of)))

pub ask_alone-requires-clause-alone : goal.ask_alone-requires-clause-alone
ask_alone-requires-clause-alone c =
    let a = c.self.inside in
    let subs = a.subscriptions.items in
    let k = c.args.place in
    let one = c.index_mut.result.now in
    let many = ap (λ (v : AudienceState). length v.observers) c.self.view_is in
    let long = observers-length a.tape.items subs in
    let lt : k < length subs = omega (arith, c.requires.place, many, long) in
    let all = length-map subs place_of in
    alone a.tape (places_of subs) k (place_of one) (omega (arith, c.requires.alone, many, long, all)) (omega (arith, lt, all))
    (sym (place-at subs k one (place_of one) lt c.index_mut.ensures.value)) c.self.invariant.2

pub invariant_of-self : goal.invariant_of-self
invariant_of-self c =
    let a = c.self.inside in
    let subs = a.subscriptions.items in
    let k = c.args.place in
    let old = c.index_mut.result.now in
    let new = c.ask_alone.new.self in
    let tape = c.ask_alone.new.tape in
    let many = ap (λ (v : AudienceState). length v.observers) c.self.view_is in
    let long = observers-length a.tape.items subs in
    let all = length-map subs place_of in
    let lt : k < length subs = omega (arith, c.requires.place, many, long) in
    let single : length (places_of subs) ≡ 1 = omega (arith, c.requires.alone, many, long, all) in
    let inside : k < length (places_of subs) = omega (arith, lt, all) in
    let at : place_of old ≡ get_or (places_of subs) k (place_of old) = sym (place-at subs k old (place_of old) lt c.index_mut.ensures.value) in
    let sets : places_of (set subs k new) ≡ set (places_of subs) k (place_of new) = map-set place_of subs k new in (
      subst (λ (ps : List Place). AllOn tape false ps) (sym sets) (alone_on tape (places_of subs) k (place_of new) single inside c.ask_alone.ensures.stands),
      subst (λ (ps : List Place). Apart ps) (sym sets)
          (apart_same (places_of subs) (set (places_of subs) k (place_of new)) (set_cursors (places_of subs) k (place_of old) (place_of new) at c.ask_alone.ensures.cursor) c.self.invariant.1),
      subst (λ (ps : List Place). Owned tape ps) (sym sets) (owned_alone tape (places_of subs) k (place_of new) single inside c.ask_alone.ensures.alone),
      idle_set subs k old new lt c.index_mut.ensures.value c.ask_alone.ensures.ready c.self.invariant.3,
    )

pub returns-clause-refuses : goal.returns-clause-refuses
returns-clause-refuses c = λ default.
    let a = c.self.inside in
    let subs = a.subscriptions.items in
    let k = c.args.place in
    let one = c.index_mut.result.now in
    let lt : k < length subs = omega (arith, c.requires.place, ap (λ (v : AudienceState). length v.observers) c.self.view_is, observers-length a.tape.items subs) in
    let seen = ap (λ (v : AudienceState). get_or v.observers k default) (sym c.self.view_is) ∙ observer-at a.tape.items subs k one default lt c.index_mut.ensures.value in
    subst (λ (o : Observer). RefusesRequest o.lane.owing c.args.n c.ask_alone.result) (sym seen) c.ask_alone.ensures.refuses

pub returns-clause-err : goal.returns-clause-err
returns-clause-err c =
    let a = c.self.inside in
    let subs = a.subscriptions.items in
    let k = c.args.place in
    let old = c.index_mut.result.now in
    let new = c.ask_alone.new.self in
    let later = c.ask_alone.new.tape.items in
    let lt : k < length subs = omega (arith, c.requires.place, ap (λ (v : AudienceState). length v.observers) c.self.view_is, observers-length a.tape.items subs) in
    on_err c.ask_alone.result
    (λ (known : (observer_on later (place_of new) ≡ observer_on a.tape.items (place_of old)) × (later ≡ a.tape.items) × (c.ask_alone.new.outs.items ≡ c.args.outs.now.items)). (
      ap (λ (items : List Item). record { items = items; observers = observers_on later (places_of (set subs k new)) }) known.1
          ∙ ap (λ (os : List Observer). record { items = a.tape.items; observers = os }) (set_unchanged a.tape.items later subs k old new known.1 lt c.index_mut.ensures.value known.0)
          ∙ c.self.view_is,
      known.2,
    ))
    c.ask_alone.ensures.err

pub returns-clause-asked : goal.returns-clause-asked
returns-clause-asked c =
    let a = c.self.inside in
    let subs = a.subscriptions.items in
    let k = c.args.place in
    let old = c.index_mut.result.now in
    let new = c.ask_alone.new.self in
    let later = c.ask_alone.new.tape.items in
    let before = c.args.outs.now.items in
    let after = c.ask_alone.new.outs.items in
    let many = ap (λ (v : AudienceState). length v.observers) c.self.view_is in
    let long = observers-length a.tape.items subs in
    let lt : k < length subs = omega (arith, c.requires.place, many, long) in
    let single : length subs ≡ 1 = omega (arith, c.requires.alone, many, long) in
    on_ok c.ask_alone.result
    (λ (asked : AsksInto (observer_on a.tape.items (place_of old)) (observer_on later (place_of new)) c.args.n before after) (default : Observer).
    let seen = ap (λ (v : AudienceState). get_or v.observers k default) (sym c.self.view_is) ∙ observer-at a.tape.items subs k old default lt c.index_mut.ensures.value in
    let made : AsksAt c.args.self.now.observers (observers_on later (places_of (set subs k new))) k default c.args.n before after = record {
      observer = observer_on later (place_of new);
      news_are =
          alone_observers a.tape.items later subs k new single lt
          ∙ ap (λ (v : AudienceState). set v.observers k (observer_on later (place_of new))) c.self.view_is;
      asks = subst (λ (o : Observer). AsksInto o (observer_on later (place_of new)) c.args.n before after) (sym seen) asked;
    } in made)
    c.ask_alone.ensures.asked
