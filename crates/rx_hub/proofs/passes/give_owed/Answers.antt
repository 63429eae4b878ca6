use Rattle.std.proofs.Common.{◌≡◌, ◌<◌, ◌+◌, ◌++◌, length, take, sym, ap, subst, ◌∙◌, arith, append_assoc}
use Rattle.std.proofs.lemmas.List.{take_all, length-map}
use Rattle.rx_history.specs.Histories.{addressed}
use Rattle.rx_hub.specs.Seats.{owing_of, given_now}
use Rattle.rx_hub.specs.Audiences.{Place, place_of, places_of, gifts}
use Rattle.rx_hub.proofs.Feeding.{gifts-more}
use Rattle.rx_hub.proofs.Places.{place-at}
use Rattle.rx_hub.proofs.passes.give_owed.Goals as goal

pub give-requires-clause-owed : goal.give-requires-clause-owed
give-requires-clause-owed c =
    let subs = c.args.subscriptions.now.items in
    let i = c.in-Some.last in
    let one = c.index.result.now in
    let lt : i < length subs = omega arith in
    subst (λ (p : Place). 0 < owing_of p.seat) (place-at subs i one (place_of one) lt c.index.ensures)
    (c.requires.owed i (place_of one) (omega (arith, lt, length-map subs place_of)))

pub returns-clause-given : goal.returns-clause-given
returns-clause-given c =
    let subs = c.args.subscriptions.now.items in
    let places = places_of subs in
    let before = c.args.outs.now.items in
    let item = c.args.item in
    let i = c.in-Some.last in
    let one = c.index.result.now in
    let gift = addressed one.who (given_now one.seat item) in
    let lt : i < length subs = omega arith in
    let within : i < length places = omega (arith, lt, length-map subs place_of) in
    let at = sym (place-at subs i one (place_of one) lt c.index.ensures) in
    let all : take (i + 1) places ≡ places = take_all (i + 1) places (omega (arith, lt, length-map subs place_of)) in
    c.give.ensures.given
    ∙ ap (λ os. os ++ gift) c.in_ok-give_copies.ensures.given
    ∙ append_assoc before (gifts item (take i places)) gift
    ∙ ap (λ gs. before ++ gs) (sym (gifts-more item places i (place_of one) within at) ∙ ap (gifts item) all)
