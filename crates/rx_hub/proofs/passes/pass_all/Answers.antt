use Rattle.std.proofs.Common.{◌≡◌, ◌<◌, ◌+◌, ◌∷◌, [], List, length, take, get_or, set, true, false, refl, sym, ap, subst, ◌∙◌, arith}
use Rattle.std.proofs.lemmas.List.{take_all, length-map, map-set}
use Rattle.std.proofs.lemmas.List.Elements.{AllWithin-more_set}
use Rattle.rx_note.specs.declared.given.Given.{Given}
use Rattle.rx_note.specs.declared.item.Item.{Item}
use Rattle.rx_note.specs.Signals.{Offered}
use Rattle.rx_hub.specs.declared.subscription.Subscription.{Subscription}
use Rattle.rx_hub.specs.Seats.{Stands, TakesMore, overflows_at, HoldsCopy, HoldsAside, IsIdle, given_now}
use Rattle.rx_hub.specs.Subscriptions.{Observer, Feeds, FeedsInto, AllFedInto}
use Rattle.rx_hub.specs.Audiences.{Place, place_of, places_of, observer_on, observers_on, gifts}
use Rattle.rx_hub.specs.Audiences as audiences
use Rattle.rx_hub.proofs.Feeding.{still-at, rest-more, fed-more, gifts-more}
use Rattle.rx_hub.proofs.Places.{Turning, Turning-more, place-at, set_cursors, apart_same}
use Rattle.rx_hub.proofs.Tight.{owned_moved, owned_same}
use Rattle.rx_hub.proofs.passes.pass_all.Goals as goal

pub loop-i-init : goal.loop-i-init
loop-i-init c = record {
  rest = refl;
  fed = λ items item tape_is holds. ([], refl, refl);
  idle = λ aside k d low high. absurd (omega (arith, high));
  turning = record {
    done = λ k d low high. absurd (omega (arith, low, high));
    left = λ k d low high. c.requires.on k d high;
  };
  cursors = refl;
  owned = λ owned. owned;
  items = refl;
  len = refl;
}

pub pass-requires-clause-stands : goal.pass-requires-clause-stands
pass-requires-clause-stands c =
    let subs = c.loop-i.subscriptions.items in
    let one = c.index_mut.result.now in
    let lt : c.loop-i.i < length subs = omega arith in
    let on = c.loop-i.invariant.turning.left c.loop-i.i (place_of one) (omega arith) (omega (arith, lt, length-map subs place_of)) in
    subst (λ (p : Place). Stands c.loop-i.tape true p.seat) (place-at subs c.loop-i.i one (place_of one) lt c.index_mut.ensures.value) on

pub pass-requires-clause-open : goal.pass-requires-clause-open
pass-requires-clause-open c =
    let olds = c.args.subscriptions.now.items in
    let i = c.loop-i.i in
    let one = c.index_mut.result.now in
    let lt_old : i < length olds = omega (arith, c.loop-i.invariant.len) in
    let is_old = c.index_mut.ensures.value ∙ still-at olds c.loop-i.subscriptions.items i one c.loop-i.invariant.rest in
    subst (λ (p : Place). TakesMore p.seat) (place-at olds i one (place_of one) lt_old is_old)
    (c.requires.open i (place_of one) (omega (arith, lt_old, length-map olds place_of)))

pub pass-requires-clause-fits : goal.pass-requires-clause-fits
pass-requires-clause-fits c =
    let olds = c.args.subscriptions.now.items in
    let i = c.loop-i.i in
    let one = c.index_mut.result.now in
    let lt_old : i < length olds = omega (arith, c.loop-i.invariant.len) in
    let is_old = c.index_mut.ensures.value ∙ still-at olds c.loop-i.subscriptions.items i one c.loop-i.invariant.rest in
    subst (λ (p : Place). overflows_at p.seat ≡ false) (place-at olds i one (place_of one) lt_old is_old)
    (c.requires.fits i (place_of one) (omega (arith, lt_old, length-map olds place_of)))

pub loop-i-preserved : goal.loop-i-preserved
loop-i-preserved c =
    let was = c.loop-i.invariant in
    let olds = c.args.subscriptions.now.items in
    let news = c.loop-i.subscriptions.items in
    let i = c.loop-i.i in
    let old = c.index_mut.result.now in
    let new = c.pass.new.self in
    let lt : i < length news = omega arith in
    let lt_old : i < length olds = omega (arith, lt, was.len) in
    let within : i < length (places_of news) = omega (arith, lt, length-map news place_of) in
    let within_old : i < length (places_of olds) = omega (arith, lt_old, length-map olds place_of) in
    let at : place_of old ≡ get_or (places_of news) i (place_of old) = sym (place-at news i old (place_of old) lt c.index_mut.ensures.value) in
    let is_old : old ≡ get_or olds i old = c.index_mut.ensures.value ∙ still-at olds news i old was.rest in
    let at_old : place_of old ≡ get_or (places_of olds) i (place_of old) = sym (place-at olds i old (place_of old) lt_old is_old) in
    let sets : places_of (set news i new) ≡ set (places_of news) i (place_of new) = map-set place_of news i new in
    let items_are = c.pass.ensures.leaves.items ∙ was.items in
    record {
      rest = rest-more olds news i new was.rest;
      fed = λ items item tape_is holds.
          let held = subst (λ (s : Subscription). HoldsCopy item s.ready.item s.seat) (sym is_old) (holds i old lt_old) in
          let Fed : List Item → Type 0 = λ later. Feeds (observer_on items (place_of old)) (observer_on later (place_of new)) (Offered item ∷ []) (given_now old.seat item) in
          let gives : FeedsInto (observer_on items (place_of old)) (observer_on c.args.tape.now.items (place_of new)) (Offered item ∷ []) (gifts item (take i (places_of olds))) (gifts item (take (i + 1) (places_of olds))) = (
            given_now old.seat item,
            gifts-more item (places_of olds) i (place_of old) within_old at_old,
            subst Fed items_are (c.pass.ensures.fed items item (was.items ∙ tape_is) held),
          ) in
          fed-more (Offered item ∷ []) items c.args.tape.now.items olds news i [] (gifts item (take i (places_of olds))) (gifts item (take (i + 1) (places_of olds))) old new was.rest
          lt_old (omega (arith, was.len)) c.index_mut.ensures.value (was.fed items item tape_is holds) gives;
      idle = λ aside.
          let here = subst (λ (s : Subscription). HoldsAside s.seat s.ready) (sym is_old) (aside i old lt_old) in
          AllWithin-more_set news i new lt (λ (s : Subscription). IsIdle s.ready) (was.idle aside) (c.pass.ensures.idle here);
      turning = subst (λ (ps : List Place). Turning c.pass.new.tape true ps (i + 1)) (sym sets)
          (Turning-more c.loop-i.tape c.pass.new.tape true (places_of news) i (place_of old) (place_of new) was.turning
          (apart_same (places_of olds) (places_of news) was.cursors c.requires.apart) within at c.pass.ensures.leaves c.pass.ensures.stands);
      cursors = ap audiences.cursors sets ∙ set_cursors (places_of news) i (place_of old) (place_of new) at c.pass.ensures.cursor ∙ was.cursors;
      owned = λ owned.
          let now = owned_same c.loop-i.tape (places_of olds) (places_of news) was.cursors (was.owned owned) in
          owned_same c.pass.new.tape (places_of news) (places_of olds) (sym was.cursors)
          (owned_moved c.loop-i.tape c.pass.new.tape (places_of news) i (place_of old) within at c.pass.ensures.leaves now);
      items = items_are;
      len = was.len;
    }

pub returns-clause-fed : goal.returns-clause-fed
returns-clause-fed c = λ items item tape_is holds.
    let was = c.loop-i.invariant in
    let olds = c.args.subscriptions.now.items in
    let news = c.loop-i.subscriptions.items in
    let i = c.loop-i.i in
    let all_olds : take i olds ≡ olds = take_all i olds (omega (arith, was.len)) in
    let all_places : take i (places_of olds) ≡ places_of olds = take_all i (places_of olds) (omega (arith, was.len, length-map olds place_of)) in
    let all_news : take i news ≡ news = take_all i news (omega (arith, was.len)) in
    let Fed : List Observer → List Observer → List Given → Type 0 = λ os ns gs. AllFedInto (Offered item ∷ []) os ns [] gs in
    subst (λ (gs : List Given). Fed (observers_on items (places_of olds)) (observers_on c.loop-i.tape.items (places_of news)) gs) (ap (gifts item) all_places)
    (subst (λ (ns : List Observer). Fed (observers_on items (places_of olds)) ns (gifts item (take i (places_of olds))))
    (ap (λ ss. observers_on c.args.tape.now.items (places_of ss)) all_news ∙ ap (λ (xs : List Item). observers_on xs (places_of news)) (sym was.items))
    (subst (λ (os : List Observer). Fed os (observers_on c.args.tape.now.items (places_of (take i news))) (gifts item (take i (places_of olds)))) (ap (λ ss. observers_on items (places_of ss)) all_olds) (was.fed items item tape_is holds)))

pub returns-clause-idle : goal.returns-clause-idle
returns-clause-idle c = λ aside k d lt. c.loop-i.invariant.idle aside k d (omega arith) (omega (arith, lt))

pub returns-clause-on : goal.returns-clause-on
returns-clause-on c = λ k d lt.
    c.loop-i.invariant.turning.done k d (omega arith) (omega (arith, lt, length-map c.loop-i.subscriptions.items place_of))

pub returns-clause-owned : goal.returns-clause-owned
returns-clause-owned c = λ owned.
    owned_same c.loop-i.tape (places_of c.args.subscriptions.now.items) (places_of c.loop-i.subscriptions.items) c.loop-i.invariant.cursors (c.loop-i.invariant.owned owned)
