use Rattle.std.proofs.Common.{◌≡◌, ◌+◌, ◌-◌, min, List, length, refl, sym, subst, ap, ◌∙◌, arith}
use Rattle.std.proofs.lemmas.List.{length-drop}
use Rattle.rx_note.specs.declared.item.Item.{Item}
use Rattle.rx_tape.specs.Tapes.{TapeState, end_of, lowest, passed, trimmed, with_fewer}
use Rattle.rx_tape.proofs.Lows.{lowest-le, le-lowest, held_back, all_kept}
use Rattle.rx_tape.proofs.tape.Tape.trim.Goals as goal
use Rattle.rx_tape.proofs.tape.Tape.trim.Goals.{then-len-keep-via-then-len-keep, then-len-keep-via-else-len-keep+then-stands_at}

pub returns-then-len-keep : goal.returns-then-len-keep
returns-then-len-keep c =
    let t = c.self.inside in
    let v : TapeState = record { front = t.front; items = t.items.items; places = t.places } in
    subst (λ (tape : TapeState). tape ≡ trimmed tape c.args.keep) c.self.view_is
    (elim c.then-len-keep.branch [
      | then-len-keep-via-then-len-keep w ↦ all_kept v c.args.keep (omega (arith, w.if-len-keep.true, c.len.ensures))
      | then-len-keep-via-else-len-keep+then-stands_at w ↦ held_back v c.args.keep t.slowest (w.if-stands_at.ensures.0 refl)
    ])

pub overflow_sub-low : goal.overflow_sub-low
overflow_sub-low c =
    let t = c.self.inside in
    let end_is = c.end.ensures ∙ ap end_of (sym c.self.view_is) in
    let low = le-lowest t.front t.places (t.front + length t.items.items) (omega arith) (λ cursor place is. (c.self.invariant.1 cursor place is).0) in
    let same = c.lowest-low.ensures ∙ ap (lowest t.places) end_is in
    omega (arith, low, same)

pub invariant_of-self : goal.invariant_of-self
invariant_of-self c =
    let t = c.self.inside in
    let end_is = c.end.ensures ∙ ap end_of (sym c.self.view_is) in
    let same = c.lowest-low.ensures ∙ ap (lowest t.places) end_is in
    let all : c.len-2.result ≡ length t.items.items = omega (arith, c.len-2.ensures) in
    let gone : c.min-gone.result ≡ min (lowest t.places (t.front + length t.items.items) - t.front) (length t.items.items - c.args.keep) =
    c.min-gone.ensures ∙ ap (λ low. min (low - t.front) (c.len-2.result - c.args.keep)) same ∙ ap (λ n. min (lowest t.places (t.front + length t.items.items) - t.front) (n - c.args.keep)) all in
    let low = le-lowest t.front t.places (t.front + length t.items.items) (omega arith) (λ cursor place is. (c.self.invariant.1 cursor place is).0) in
    let left : length c.drop_front.new.items.items ≡ length t.items.items - c.min-gone.result = ap length c.drop_front.ensures ∙ length-drop c.min-gone.result t.items.items in (
      omega (arith, left, c.self.invariant.0),
      λ cursor place is.
          let on = c.self.invariant.1 cursor place is in
          let lowest_is = lowest-le t.places (t.front + length t.items.items) cursor place is in
          (omega (arith, low, same, lowest_is, gone), omega (arith, left, on, gone)),
    )

pub returns : goal.returns
returns c =
    let t = c.self.inside in
    let v : TapeState = record { front = t.front; items = t.items.items; places = t.places } in
    let end_is = c.end.ensures ∙ ap end_of (sym c.self.view_is) in
    let same = c.lowest-low.ensures ∙ ap (lowest t.places) end_is in
    let all : c.len-2.result ≡ length t.items.items = omega (arith, c.len-2.ensures) in
    let gone : c.min-gone.result ≡ passed v c.args.keep =
    c.min-gone.ensures ∙ ap (λ low. min (low - t.front) (c.len-2.result - c.args.keep)) same ∙ ap (λ n. min (lowest t.places (end_of v) - t.front) (n - c.args.keep)) all in
    subst (λ (tape : TapeState). record { front = t.front + c.min-gone.result; items = c.drop_front.new.items.items; places = t.places } ≡ trimmed tape c.args.keep) c.self.view_is
    (ap (λ (left : List Item). record { front = t.front + c.min-gone.result; items = left; places = t.places }) c.drop_front.ensures
    ∙ ap (with_fewer v) gone)
