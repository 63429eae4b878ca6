use Rattle.std.proofs.Common.{◌≡◌, ◌<◌, ◌≤◌, ◌+◌, ◌++◌, ℕ, List, length, take, get_or, vec_len, false, inl, inr, arith, refl, ap, sym, subst, ◌∙◌, append_assoc, append-nil}
use Rattle.std.specs.List.{AllWithin}
use Rattle.std.proofs.lemmas.Bool.{cases_lt}
use Rattle.std.proofs.lemmas.List.{get_or_default}
use Rattle.std.proofs.Math.Seq.{map-set_same, take-length}
use Rattle.std.proofs.lemmas.List.{length-map}
use Rattle.std.proofs.lemmas.List.Elements.{All-set, AllWithin-more_set}
use Rattle.rx_history.specs.Histories.{addressed}
use Rattle.rx_hub.specs.declared.subscription.Subscription.{Subscription}
use Rattle.rx_hub.specs.Seats.{HoldsCopy, HoldsAside, overflows_at, given_now}
use Rattle.rx_hub.specs.Audiences.{Place, place_of, places_of, gifts}
use Rattle.rx_hub.proofs.Feeding.{gifts-more, front_of}
use Rattle.rx_hub.proofs.Places.{place-at}
use Rattle.rx_hub.proofs.passes.give_item.Goals as goal

-- what holds of those before one holds of it too
within_more : (places : List Place) (i : ℕ) (one : Place) (P : Place → Type 0) → i < length places → one ≡ get_or places i one → AllWithin P places 0 i → P one → AllWithin P places 0 (i + 1)
within_more places i one P lt at was here = λ k d low high.
    elim (cases_lt k i) [
      | inl less ↦ was k d low less
      | inr le ↦
          let same : i ≡ k = omega (arith, le, high) in
          let at_d : get_or places i d ≡ one = get_or_default places i d one lt ∙ sym at in
          subst P (sym (ap (λ n. get_or places n d) (sym same) ∙ at_d)) here
    ]

all_of : {A : Type 0} (n : ℕ) (xs : List A) → n ≡ length xs → take n xs ≡ xs
all_of n xs long = ap (λ k. take k xs) long ∙ take-length xs

pub returns-in_err-fits-clause-places : goal.returns-in_err-fits-clause-places
returns-in_err-fits-clause-places c =
    map-set_same place_of c.loop-i.subscriptions.items c.loop-i.i c.give_now.new.self c.index_mut.result.now
    (c.give_now.ensures.place ∙ ap place_of c.index_mut.ensures.value) ∙ c.loop-i.invariant.places

pub loop-i-preserved : goal.loop-i-preserved
loop-i-preserved c =
    let was = c.loop-i.invariant in
    let subs = c.loop-i.subscriptions.items in
    let places = places_of c.args.subscriptions.now.items in
    let before = c.args.outs.now.items in
    let item = c.args.item.now in
    let i = c.loop-i.i in
    let one = c.index_mut.result.now in
    let gift = addressed one.who (given_now one.seat item) in
    let fits = c.if-not-fits.false in
    let lt : i < length subs = omega arith in
    let within : i < length places = omega (arith, lt, was.len, length-map c.args.subscriptions.now.items place_of) in
    let at : place_of one ≡ get_or places i (place_of one) = sym (place-at subs i one (place_of one) lt c.index_mut.ensures.value) ∙ ap (λ ps. get_or ps i (place_of one)) was.places in
    record {
      places =
          map-set_same place_of subs i c.give_now.new.self one (c.give_now.ensures.place ∙ ap place_of c.index_mut.ensures.value) ∙ was.places;
      len = was.len;
      fits = within_more places i (place_of one) (λ (p : Place). overflows_at p.seat ≡ false) within at was.fits (c.in_ok-fits.ensures.fits fits);
      given =
          c.in_ok-fits.ensures.given fits
          ∙ ap (λ os. os ++ gift) was.given
          ∙ append_assoc before (gifts item (take i places)) gift
          ∙ ap (λ gs. before ++ gs) (sym (gifts-more item places i (place_of one) within at));
      holds = AllWithin-more_set subs i c.give_now.new.self lt (λ (s : Subscription). HoldsCopy item s.ready.item s.seat) was.holds (c.in_ok-fits.ensures.holds fits);
      aside = λ all.
          let Aside : Subscription → Type 0 = λ s. HoldsAside s.seat s.ready in
          let here = subst Aside (sym c.index_mut.ensures.value) (was.aside all i one lt) in
          All-set Aside subs i c.give_now.new.self (c.give_now.ensures.aside here) (was.aside all);
      room = omega (arith, c.give_now.ensures.len, c.give_now.ensures.capacity, was.room, was.len);
    }

pub loop-i-init : goal.loop-i-init
loop-i-init c =
    record {
      places = refl;
      len = refl;
      fits = λ k d low high. absurd (omega (arith, high));
      given = sym (append-nil c.args.outs.now.items);
      holds = λ k d low high. absurd (omega (arith, high));
      aside = λ all. all;
      room = omega (arith, c.requires);
    }

pub give_now-requires : goal.give_now-requires
give_now-requires c = omega arith

pub returns-in_err-fits-clause-len : goal.returns-in_err-fits-clause-len
returns-in_err-fits-clause-len c = c.loop-i.invariant.len

pub returns-in_err-fits-clause-front : goal.returns-in_err-fits-clause-front
returns-in_err-fits-clause-front c =
    let outs = c.args.outs.now in
    let long : vec_len outs ≡ length outs.items = omega (arith, outs.ok.0) in
    front_of (vec_len outs) outs.items (gifts c.args.item.now (take c.loop-i.i (places_of c.args.subscriptions.now.items))) c.give_now.new.outs.items long
    (c.in_err-fits.ensures.err ∙ c.loop-i.invariant.given)

pub returns-clause-given : goal.returns-clause-given
returns-clause-given c = λ fits.
    let subs = c.args.subscriptions.now in
    let places = places_of subs.items in
    let all : c.loop-i.i ≡ length places = omega (arith, subs.ok.0, length-map subs.items place_of) in
    c.loop-i.invariant.given ∙ ap (λ ps. c.args.outs.now.items ++ gifts c.args.item.now ps) (all_of c.loop-i.i places all)

pub returns-clause-aside : goal.returns-clause-aside
returns-clause-aside c = λ fits all. c.loop-i.invariant.aside all

pub returns-clause-holds : goal.returns-clause-holds
returns-clause-holds c =
    let was = c.loop-i.invariant in
    let subs = c.loop-i.subscriptions in
    let all : length subs.items ≤ c.loop-i.i = omega (arith, subs.ok.0, was.len) in
    λ fits k d lt. was.holds k d (omega arith) (omega (arith, lt, all))

pub returns-clause-front : goal.returns-clause-front
returns-clause-front c =
    let outs = c.args.outs.now in
    let long : vec_len outs ≡ length outs.items = omega (arith, outs.ok.0) in
    front_of (vec_len outs) outs.items (gifts c.args.item.now (take c.loop-i.i (places_of c.args.subscriptions.now.items))) c.loop-i.outs.items long c.loop-i.invariant.given

pub returns-clause-fits : goal.returns-clause-fits
returns-clause-fits c =
    let subs = c.args.subscriptions.now in
    let all : length (places_of subs.items) ≤ c.loop-i.i = omega (arith, subs.ok.0, length-map subs.items place_of) in
    λ fits k d lt. c.loop-i.invariant.fits k d (omega arith) (omega (arith, lt, all))

pub returns-then-not-fits-clause-places : goal.returns-then-not-fits-clause-places
returns-then-not-fits-clause-places c =
    map-set_same place_of c.loop-i.subscriptions.items c.loop-i.i c.give_now.new.self c.index_mut.result.now
    (c.give_now.ensures.place ∙ ap place_of c.index_mut.ensures.value) ∙ c.loop-i.invariant.places
