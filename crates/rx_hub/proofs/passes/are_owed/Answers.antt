use Rattle.std.proofs.Common.{◌≡◌, ℕ, ◌<◌, inl, inr, length, get_or, sym, subst, arith}
use Rattle.std.proofs.lemmas.Bool.{cases_lt}
use Rattle.std.proofs.lemmas.List.{length-map}
use Rattle.rx_hub.specs.Seats.{owing_of}
use Rattle.rx_hub.specs.Audiences.{Place, place_of, places_of}
use Rattle.rx_hub.proofs.Places.{place-at}
use Rattle.rx_hub.proofs.passes.are_owed.Goals as goal

pub returns-then-owed-eq0 : goal.returns-then-owed-eq0
returns-then-owed-eq0 c =
    let subs = c.args.subscriptions.now.items in
    let i = c.loop-i.i in
    let one = c.index.result.now in
    let lt : i < length subs = omega arith in (
      λ is. cc,
      λ all.
          let here : 0 < owing_of one.seat =
          subst (λ (p : Place). 0 < owing_of p.seat) (place-at subs i one (place_of one) lt c.index.ensures)
          (all i (place_of one) (omega (arith, lt, length-map subs place_of))) in
          absurd (omega (arith, here, c.owed.ensures, c.if-owed-eq0.true)),
    )

pub loop-i-preserved : goal.loop-i-preserved
loop-i-preserved c =
    let subs = c.args.subscriptions.now.items in
    let i = c.loop-i.i in
    let one = c.index.result.now in
    let within : i < length subs = omega arith in
    let here : 0 < owing_of one.seat = omega (arith, c.owed.ensures) in
    record {
      owed = λ k d from below. elim (cases_lt k i) [
        | inl lt ↦ c.loop-i.invariant.owed k d from lt
        | inr le ↦
            let last : i ≡ k = omega arith in
            subst (λ (n : ℕ). 0 < owing_of (get_or (places_of subs) n d).seat) last
            (subst (λ (p : Place). 0 < owing_of p.seat) (sym (place-at subs i one d within c.index.ensures)) here)
      ];
    }
