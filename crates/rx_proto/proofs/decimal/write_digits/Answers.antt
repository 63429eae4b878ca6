use Rattle.std.proofs.Common.{◌≡◌, ◌+◌, ◌-◌, ◌%◌, ◌/◌, ◌∷◌, [], length, drop, sym, ap, ◌∙◌, arith, rules}
use Rattle.std.proofs.lemmas.List.{drop-set, drop_all, length-set}
use Rattle.std.proofs.Math.ListN.{set}
use Rattle.rx_proto.proofs.Digits.{spelled, spelled-zero, spelled-first, spelled-more, room_left}
use Rattle.rx_proto.proofs.decimal.write_digits.Goals as goal

pub loop-rest-init : goal.loop-rest-init
loop-rest-init c =
    let digits = c.args.digits.now in
    let last = 48 + c.args.number % 10 in
    let len : length digits ≡ 10 = search rules in
    let one : drop 9 (set digits 9 last) ≡ last ∷ [] =
    drop-set digits 9 last (omega arith) ∙ ap (λ t. last ∷ t) (drop_all (9 + 1) digits (omega arith)) in (
      length-set digits 9 last ∙ len,
      omega arith,
      omega arith,
      ap (spelled (c.args.number / 10)) one ∙ spelled-first c.args.number (omega arith),
    )

pub loop-rest-preserved : goal.loop-rest-preserved
loop-rest-preserved c =
    let i = c.loop-rest.invariant in
    let rest = c.loop-rest.rest in
    let start = c.loop-rest.start in
    let room = room_left rest start (omega arith) i.2 in
    let next = 48 + rest % 10 in
    let back : start - 1 + 1 ≡ start = omega (arith, room.0) in
    let more : drop (start - 1) (set c.loop-rest.digits (start - 1) next) ≡ next ∷ drop start c.loop-rest.digits =
    drop-set c.loop-rest.digits (start - 1) next (omega (arith, i.0, i.1)) ∙ ap (λ n. next ∷ drop n c.loop-rest.digits) back in (
      length-set c.loop-rest.digits (start - 1) next ∙ i.0,
      omega (arith, i.1),
      room.1,
      ap (spelled (rest / 10)) more ∙ spelled-more rest (drop start c.loop-rest.digits) (omega arith) (omega arith) ∙ i.3,
    )

pub returns-clause-digits : goal.returns-clause-digits
returns-clause-digits c =
    let done : c.loop-rest.rest ≡ 0 = omega arith in
    sym (spelled-zero _) ∙ ap (λ n. spelled n (drop c.loop-rest.start c.loop-rest.digits)) (sym done) ∙ c.loop-rest.invariant.3
