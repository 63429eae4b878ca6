use Rattle.std.proofs.Common.{◌≡◌, ℕ, suc, ◌<◌, ◌+◌, ◌-◌, ◌*◌, List, [], length, take, get_or, set, is_some, refl, sym, ap, subst, ◌∙◌, append-nil, vec_len, arith}
use Rattle.std.proofs.Math.Nat.{suc-mul}
use Rattle.std.proofs.lemmas.List.{take_all, length-map, map-set}
use Rattle.std.proofs.lemmas.List.Elements.{AllWithin-more_set}
use Rattle.rx_note.specs.declared.item.Item.{Item}
use Rattle.rx_subject.specs.Offers.{offer_signals, most_given}
use Rattle.rx_hub.specs.declared.subscription.Subscription.{Subscription}
use Rattle.rx_hub.specs.Seats.{Stands, TakesMore, IsReady, IsIdle}
use Rattle.rx_hub.specs.Subscriptions.{Observer, FeedsInto, AllFedInto}
use Rattle.rx_hub.specs.Audiences.{Place, place_of, places_of, observer_on, observers_on}
use Rattle.rx_hub.specs.Audiences as audiences
use Rattle.rx_hub.proofs.Feeding.{still-at, rest-more, fed-more}
use Rattle.rx_hub.proofs.Places.{Turning, Turning-more, place-at, set_cursors, apart_same}
use Rattle.rx_hub.proofs.Tight.{owned_moved, owned_same}
use Rattle.rx_hub.proofs.passes.feed_all.Goals as goal

-- the room for those that are left is that for one and for the others
one_less : (left less most : ℕ) → left ≡ suc less → left * most ≡ less * most + most
one_less left less most is = ap (λ n. n * most) is ∙ suc-mul less most

pub loop-i-init : goal.loop-i-init
loop-i-init c = record {
  rest = refl;
  fed = λ items tape_is. ([], sym (append-nil c.args.outs.now.items), refl);
  idle = λ k d low high. absurd (omega (arith, high));
  turning = record {
    done = λ k d low high. absurd (omega (arith, low, high));
    left = λ k d low high. c.requires.on k d high;
  };
  cursors = refl;
  owned = λ owned. owned;
  items = refl;
  len = refl;
  room =
      let all : vec_len c.args.subscriptions.now - 0 ≡ vec_len c.args.subscriptions.now = omega arith in
      let same = ap (λ n. n * most_given c.args.offer.now) all in
      omega (arith, c.requires.outs_room, same);
}

pub feed-requires-clause-stands : goal.feed-requires-clause-stands
feed-requires-clause-stands c =
    let subs = c.loop-i.subscriptions.items in
    let one = c.index_mut.result.now in
    let lt : c.loop-i.i < length subs = omega arith in
    let on = c.loop-i.invariant.turning.left c.loop-i.i (place_of one) (omega arith) (omega (arith, lt, length-map subs place_of)) in
    subst (λ (p : Place). Stands c.loop-i.tape (is_some c.args.offer.now.item) p.seat) (place-at subs c.loop-i.i one (place_of one) lt c.index_mut.ensures.value) on

pub feed-requires-clause-open : goal.feed-requires-clause-open
feed-requires-clause-open c =
    let olds = c.args.subscriptions.now.items in
    let i = c.loop-i.i in
    let one = c.index_mut.result.now in
    let lt_old : i < length olds = omega (arith, c.loop-i.invariant.len) in
    let is_old = c.index_mut.ensures.value ∙ still-at olds c.loop-i.subscriptions.items i one c.loop-i.invariant.rest in
    subst (λ (p : Place). TakesMore p.seat) (place-at olds i one (place_of one) lt_old is_old)
    (c.requires.open i (place_of one) (omega (arith, lt_old, length-map olds place_of)))

pub feed-requires-clause-ready : goal.feed-requires-clause-ready
feed-requires-clause-ready c =
    let subs = c.loop-i.subscriptions.items in
    let one = c.index_mut.result.now in
    let lt : c.loop-i.i < length c.args.subscriptions.now.items = omega (arith, c.loop-i.invariant.len) in
    subst (λ (s : Subscription). IsReady c.args.offer.now s.ready s.seat)
    (sym (c.index_mut.ensures.value ∙ still-at c.args.subscriptions.now.items subs c.loop-i.i one c.loop-i.invariant.rest))
    (c.requires.ready c.loop-i.i one lt)

pub feed-requires-clause-room : goal.feed-requires-clause-room
feed-requires-clause-room c =
    let all = vec_len c.args.subscriptions.now in
    let left = one_less (all - c.loop-i.i) (all - (c.loop-i.i + 1)) (most_given c.args.offer.now) (omega (arith, c.loop-i.invariant.len)) in
    omega (arith, c.loop-i.invariant.room, left)

pub loop-i-preserved : goal.loop-i-preserved
loop-i-preserved c =
    let was = c.loop-i.invariant in
    let olds = c.args.subscriptions.now.items in
    let news = c.loop-i.subscriptions.items in
    let i = c.loop-i.i in
    let old = c.index_mut.result.now in
    let new = c.feed.new.self in
    let offer = c.args.offer.now in
    let lt : i < length news = omega arith in
    let within : i < length (places_of news) = omega (arith, lt, length-map news place_of) in
    let at : place_of old ≡ get_or (places_of news) i (place_of old) = sym (place-at news i old (place_of old) lt c.index_mut.ensures.value) in
    let sets : places_of (set news i new) ≡ set (places_of news) i (place_of new) = map-set place_of news i new in
    let items_are = c.feed.ensures.leaves.items ∙ was.items in
    record {
      rest = rest-more olds news i new was.rest;
      fed = λ items tape_is.
          let Gives : List Item → Type 0 = λ later. FeedsInto (observer_on items (place_of old)) (observer_on later (place_of new)) (offer_signals offer) c.loop-i.outs.items c.feed.new.outs.items in
          fed-more (offer_signals offer) items c.args.tape.now.items olds news i c.args.outs.now.items c.loop-i.outs.items c.feed.new.outs.items old new was.rest
          (omega (arith, was.len)) (omega (arith, was.len)) c.index_mut.ensures.value (was.fed items tape_is)
          (subst Gives items_are (c.feed.ensures.fed items (was.items ∙ tape_is)));
      idle = AllWithin-more_set news i new lt (λ (s : Subscription). IsIdle s.ready) was.idle c.feed.ensures.idle;
      turning = subst (λ (ps : List Place). Turning c.feed.new.tape (is_some offer.item) ps (i + 1)) (sym sets)
          (Turning-more c.loop-i.tape c.feed.new.tape (is_some offer.item) (places_of news) i (place_of old) (place_of new) was.turning
          (apart_same (places_of olds) (places_of news) was.cursors c.requires.apart) within at c.feed.ensures.leaves c.feed.ensures.stands);
      cursors = ap audiences.cursors sets ∙ set_cursors (places_of news) i (place_of old) (place_of new) at c.feed.ensures.cursor ∙ was.cursors;
      owned = λ owned.
          let now = owned_same c.loop-i.tape (places_of olds) (places_of news) was.cursors (was.owned owned) in
          owned_same c.feed.new.tape (places_of news) (places_of olds) (sym was.cursors)
          (owned_moved c.loop-i.tape c.feed.new.tape (places_of news) i (place_of old) within at c.feed.ensures.leaves now);
      items = items_are;
      len = was.len;
      room =
          let all = vec_len c.args.subscriptions.now in
          let left = one_less (all - i) (all - (i + 1)) (most_given offer) (omega (arith, was.len)) in
          omega (arith, c.feed.ensures.len, c.feed.ensures.capacity, was.room, left);
    }

pub returns-clause-fed : goal.returns-clause-fed
returns-clause-fed c = λ items tape_is.
    let was = c.loop-i.invariant in
    let olds = c.args.subscriptions.now.items in
    let news = c.loop-i.subscriptions.items in
    let i = c.loop-i.i in
    let offer = c.args.offer.now in
    let all_olds : take i olds ≡ olds = take_all i olds (omega (arith, was.len)) in
    let all_news : take i news ≡ news = take_all i news (omega (arith, was.len)) in
    let Fed : List Observer → List Observer → Type 0 = λ os ns. AllFedInto (offer_signals offer) os ns c.args.outs.now.items c.loop-i.outs.items in
    subst (λ (ns : List Observer). Fed (observers_on items (places_of olds)) ns)
    (ap (λ ss. observers_on c.args.tape.now.items (places_of ss)) all_news ∙ ap (λ (xs : List Item). observers_on xs (places_of news)) (sym was.items))
    (subst (λ (os : List Observer). Fed os (observers_on c.args.tape.now.items (places_of (take i news)))) (ap (λ ss. observers_on items (places_of ss)) all_olds) (was.fed items tape_is))

pub returns-clause-idle : goal.returns-clause-idle
returns-clause-idle c = λ k d lt. c.loop-i.invariant.idle k d (omega arith) (omega (arith, lt))

pub returns-clause-on : goal.returns-clause-on
returns-clause-on c = λ k d lt.
    c.loop-i.invariant.turning.done k d (omega arith) (omega (arith, lt, length-map c.loop-i.subscriptions.items place_of))

pub returns-clause-owned : goal.returns-clause-owned
returns-clause-owned c = λ owned.
    owned_same c.loop-i.tape (places_of c.args.subscriptions.now.items) (places_of c.loop-i.subscriptions.items) c.loop-i.invariant.cursors (c.loop-i.invariant.owned owned)
