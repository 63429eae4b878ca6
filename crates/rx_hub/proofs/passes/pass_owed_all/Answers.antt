use Rattle.std.proofs.Common.{◌≡◌, ◌<◌, ◌+◌, ◌∷◌, [], List, false, length, take, get_or, set, refl, sym, ap, subst, ◌∙◌, arith}
use Rattle.std.proofs.lemmas.List.{take_all, length-map, map-set}
use Rattle.std.proofs.lemmas.List.Elements.{All-set}
use Rattle.rx_note.specs.declared.given.Given.{Given}
use Rattle.rx_note.specs.Signals.{Offered}
use Rattle.rx_hub.specs.Seats.{Stands, TakesMore, owing_of, given_now}
use Rattle.rx_hub.specs.Subscriptions.{Observer, FeedsInto, AllFedInto}
use Rattle.rx_hub.specs.Audiences.{Place, place_of, places_of, observer_on, observers_on, gifts}
use Rattle.rx_hub.specs.Audiences as audiences
use Rattle.rx_hub.proofs.Feeding.{still-at, rest-more, fed-more, gifts-more}
use Rattle.rx_hub.proofs.Idle.{idle_set}
use Rattle.rx_hub.proofs.Places.{place-at, set_cursors}
use Rattle.rx_hub.proofs.passes.pass_owed_all.Goals as goal

pub loop-i-init : goal.loop-i-init
loop-i-init c = record {
  rest = refl;
  fed = λ items item. ([], refl, refl);
  idle = λ idle. idle;
  on = λ tape on. on;
  cursors = refl;
  len = refl;
}

pub pass_owed-requires-clause-owed : goal.pass_owed-requires-clause-owed
pass_owed-requires-clause-owed c =
    let olds = c.args.subscriptions.now.items in
    let i = c.loop-i.i in
    let one = c.index_mut.result.now in
    let lt_old : i < length olds = omega (arith, c.loop-i.invariant.len) in
    let is_old = c.index_mut.ensures.value ∙ still-at olds c.loop-i.subscriptions.items i one c.loop-i.invariant.rest in
    subst (λ (p : Place). 0 < owing_of p.seat) (place-at olds i one (place_of one) lt_old is_old)
    (c.requires.owed i (place_of one) (omega (arith, lt_old, length-map olds place_of)))

pub pass_owed-requires-clause-open : goal.pass_owed-requires-clause-open
pass_owed-requires-clause-open c =
    let olds = c.args.subscriptions.now.items in
    let i = c.loop-i.i in
    let one = c.index_mut.result.now in
    let lt_old : i < length olds = omega (arith, c.loop-i.invariant.len) in
    let is_old = c.index_mut.ensures.value ∙ still-at olds c.loop-i.subscriptions.items i one c.loop-i.invariant.rest in
    subst (λ (p : Place). TakesMore p.seat) (place-at olds i one (place_of one) lt_old is_old)
    (c.requires.open i (place_of one) (omega (arith, lt_old, length-map olds place_of)))

pub loop-i-preserved : goal.loop-i-preserved
loop-i-preserved c =
    let was = c.loop-i.invariant in
    let olds = c.args.subscriptions.now.items in
    let news = c.loop-i.subscriptions.items in
    let i = c.loop-i.i in
    let old = c.index_mut.result.now in
    let new = c.pass_owed.new.self in
    let lt : i < length news = omega arith in
    let lt_old : i < length olds = omega (arith, lt, was.len) in
    let within : i < length (places_of news) = omega (arith, lt, length-map news place_of) in
    let within_old : i < length (places_of olds) = omega (arith, lt_old, length-map olds place_of) in
    let at : place_of old ≡ get_or (places_of news) i (place_of old) = sym (place-at news i old (place_of old) lt c.index_mut.ensures.value) in
    let is_old : old ≡ get_or olds i old = c.index_mut.ensures.value ∙ still-at olds news i old was.rest in
    let at_old : place_of old ≡ get_or (places_of olds) i (place_of old) = sym (place-at olds i old (place_of old) lt_old is_old) in
    let sets : places_of (set news i new) ≡ set (places_of news) i (place_of new) = map-set place_of news i new in
    record {
      rest = rest-more olds news i new was.rest;
      fed = λ items item.
          let gives : FeedsInto (observer_on items (place_of old)) (observer_on items (place_of new)) (Offered item ∷ []) (gifts item (take i (places_of olds))) (gifts item (take (i + 1) (places_of olds))) = (
            given_now old.seat item,
            gifts-more item (places_of olds) i (place_of old) within_old at_old,
            c.pass_owed.ensures.fed items item,
          ) in
          fed-more (Offered item ∷ []) items items olds news i [] (gifts item (take i (places_of olds))) (gifts item (take (i + 1) (places_of olds))) old new was.rest
          lt_old (omega (arith, was.len)) c.index_mut.ensures.value (was.fed items item) gives;
      idle = λ idle. idle_set news i old new lt c.index_mut.ensures.value c.pass_owed.ensures.ready (was.idle idle);
      on = λ tape on.
          let all = was.on tape on in
          let here = subst (λ (p : Place). Stands tape false p.seat) (sym at) (all i (place_of old) within) in
          subst (λ (ps : List Place). audiences.AllOn tape false ps) (sym sets) (All-set (λ (p : Place). Stands tape false p.seat) (places_of news) i (place_of new) (c.pass_owed.ensures.stands tape here) all);
      cursors = ap audiences.cursors sets ∙ set_cursors (places_of news) i (place_of old) (place_of new) at c.pass_owed.ensures.cursor ∙ was.cursors;
      len = was.len;
    }

pub returns-clause-fed : goal.returns-clause-fed
returns-clause-fed c = λ items item.
    let was = c.loop-i.invariant in
    let olds = c.args.subscriptions.now.items in
    let news = c.loop-i.subscriptions.items in
    let i = c.loop-i.i in
    let all_olds : take i olds ≡ olds = take_all i olds (omega (arith, was.len)) in
    let all_places : take i (places_of olds) ≡ places_of olds = take_all i (places_of olds) (omega (arith, was.len, length-map olds place_of)) in
    let all_news : take i news ≡ news = take_all i news (omega (arith, was.len)) in
    let Fed : List Observer → List Observer → List Given → Type 0 = λ os ns gs. AllFedInto (Offered item ∷ []) os ns [] gs in
    subst (λ (gs : List Given). Fed (observers_on items (places_of olds)) (observers_on items (places_of news)) gs) (ap (gifts item) all_places)
    (subst (λ (ns : List Observer). Fed (observers_on items (places_of olds)) ns (gifts item (take i (places_of olds)))) (ap (λ ss. observers_on items (places_of ss)) all_news)
    (subst (λ (os : List Observer). Fed os (observers_on items (places_of (take i news))) (gifts item (take i (places_of olds)))) (ap (λ ss. observers_on items (places_of ss)) all_olds) (was.fed items item)))
