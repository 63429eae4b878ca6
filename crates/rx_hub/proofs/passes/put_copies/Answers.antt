use Rattle.std.proofs.Common.{◌≡◌, ◌<◌, ◌++◌, length, take, vec_len, sym, ap, subst, ◌∙◌, arith, append_assoc}
use Rattle.std.proofs.lemmas.List.{length-map}
use Rattle.rx_history.specs.Histories.{addressed}
use Rattle.rx_hub.specs.Seats.{owing_of, given_now}
use Rattle.rx_hub.specs.Audiences.{Place, place_of, places_of, gifts}
use Rattle.rx_hub.proofs.Feeding.{gifts-more, front_of}
use Rattle.rx_hub.proofs.Places.{place-at}
use Rattle.rx_hub.proofs.passes.put_copies.Goals as goal

pub give-requires-clause-owed : goal.give-requires-clause-owed
give-requires-clause-owed c =
    let subs = c.args.subscriptions.now.items in
    let i = c.loop-i.i in
    let one = c.index.result.now in
    let lt : i < length subs = omega arith in
    subst (λ (p : Place). 0 < owing_of p.seat) (place-at subs i one (place_of one) lt c.index.ensures)
    (c.requires.owed i (place_of one) (omega (arith, lt, length-map subs place_of)))

pub loop-i-preserved : goal.loop-i-preserved
loop-i-preserved c =
    let was = c.loop-i.invariant in
    let subs = c.args.subscriptions.now.items in
    let places = places_of subs in
    let before = c.args.outs.now.items in
    let item = c.args.item.now in
    let i = c.loop-i.i in
    let one = c.index.result.now in
    let gift = addressed one.who (given_now one.seat item) in
    let lt : i < length subs = omega arith in
    let within : i < length places = omega (arith, lt, length-map subs place_of) in
    let at = sym (place-at subs i one (place_of one) lt c.index.ensures) in
    record {
      given =
          c.give.ensures.given
          ∙ ap (λ copy. c.loop-i.outs.items ++ addressed one.who (given_now one.seat copy)) c.in_ok-copy.ensures
          ∙ ap (λ os. os ++ gift) was.given
          ∙ append_assoc before (gifts item (take i places)) gift
          ∙ ap (λ gs. before ++ gs) (sym (gifts-more item places i (place_of one) within at));
      len = omega (arith, c.give.ensures.len, was.len);
      capacity = c.give.ensures.capacity ∙ was.capacity;
      room = omega (arith, c.give.ensures.len, c.give.ensures.capacity, was.room, lt);
    }

pub returns-clause-given : goal.returns-clause-given
returns-clause-given c =
    let before = c.args.outs.now.items in
    let places = places_of c.args.subscriptions.now.items in
    c.loop-i.invariant.given ∙ ap (λ n. before ++ gifts c.args.item.now (take n places)) (omega arith)

pub returns-in_err-copy-clause-front : goal.returns-in_err-copy-clause-front
returns-in_err-copy-clause-front c =
    let outs = c.args.outs.now in
    let long : vec_len outs ≡ length outs.items = omega (arith, outs.ok.0) in
    front_of (vec_len outs) outs.items (gifts c.args.item.now (take c.loop-i.i (places_of c.args.subscriptions.now.items))) c.loop-i.outs.items long c.loop-i.invariant.given

pub returns-clause-front : goal.returns-clause-front
returns-clause-front c =
    let outs = c.args.outs.now in
    let long : vec_len outs ≡ length outs.items = omega (arith, outs.ok.0) in
    front_of (vec_len outs) outs.items (gifts c.args.item.now (take c.loop-i.i (places_of c.args.subscriptions.now.items))) c.loop-i.outs.items long c.loop-i.invariant.given
