use Rattle.std.proofs.Common.{◌<◌, ◌∷◌, ◌++◌, [], length, map, take, false, append-nil, append_assoc, sym, ap, subst, ◌∙◌, arith}
use Rattle.std.proofs.lemmas.List.{length-map, take_all}
use Rattle.rx_hub.specs.Seats.{Stands}
use Rattle.rx_hub.specs.Audiences.{Place, place_of, places_of, observer_on, observers_on}
use Rattle.rx_hub.specs.Looks.{row_at}
use Rattle.rx_hub.proofs.Looking.{rows-more}
use Rattle.rx_hub.proofs.Places.{place-at, observer-at, observers-length}
use Rattle.rx_hub.proofs.audience.shown.put_rows.Goals as goal

pub loop-i-init : goal.loop-i-init
loop-i-init c = record { rows = λ tape all. sym (append-nil c.args.rows.now.items); room = omega (arith, c.requires) }

pub loop-i-preserved : goal.loop-i-preserved
loop-i-preserved c =
    let subs = c.args.subscriptions.now.items in
    let i = c.loop-i.i in
    let one = c.index.result.now in
    let lt : i < length subs = omega arith in
    record {
      rows = λ tape all.
          let observers = observers_on tape.items (places_of subs) in
          let mine = observer_on tape.items (place_of one) in
          let before = c.args.rows.now.items in
          let on = subst (λ (p : Place). Stands tape false p.seat) (place-at subs i one (place_of one) lt c.index.ensures)
          (all i (place_of one) (omega (arith, lt, length-map subs place_of))) in
          let within : i < length observers = omega (arith, lt, observers-length tape.items subs) in
          c.push_reserved.ensures.items
          ∙ ap (λ row. c.loop-i.rows.items ++ row ∷ []) (c.look.ensures tape on)
          ∙ ap (λ rows. rows ++ row_at mine ∷ []) (c.loop-i.invariant.rows tape all)
          ∙ append_assoc before (map row_at (take i observers)) (row_at mine ∷ [])
          ∙ ap (λ rows. before ++ rows) (sym (rows-more row_at observers i mine within (observer-at tape.items subs i one mine lt c.index.ensures)));
      room = omega (arith, c.push_reserved.ensures.len, c.push_reserved.ensures.capacity, c.loop-i.invariant.room);
    }

pub returns : goal.returns
returns c = λ tape all.
    let subs = c.args.subscriptions.now in
    let observers = observers_on tape.items (places_of subs.items) in
    let every = take_all c.loop-i.i observers (omega (arith, observers-length tape.items subs.items, subs.ok.0)) in
    c.loop-i.invariant.rows tape all ∙ ap (λ some. c.args.rows.now.items ++ map row_at some) every
