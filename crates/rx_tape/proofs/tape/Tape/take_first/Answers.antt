use Rattle.std.proofs.Common.{length, sym, subst, ap, arith}
use Rattle.std.proofs.lemmas.List.{length-drop}
use Rattle.rx_tape.specs.Tapes.{TapeState, HavePassed}
use Rattle.rx_tape.proofs.tape.Tape.take_first.Goals as goal

pub invariant_of-self : goal.invariant_of-self
invariant_of-self c =
    let t = c.self.inside in
    let v : TapeState = record { front = t.front; items = t.items.items; places = t.places } in
    let passed = subst (λ (tape : TapeState). HavePassed tape 1) (sym c.self.view_is) c.requires.passed in
    let some = ap (λ (tape : TapeState). length tape.items) c.self.view_is in
    let left = ap length c.pop_front.ensures.rest in
    let long = length-drop 1 t.items.items in (
      omega (arith, left, long, some, c.requires.some, c.self.invariant.0),
      λ cursor place is.
          let on = c.self.invariant.1 cursor place is in
          let past = passed cursor place is in
          (omega (arith, past), omega (arith, on, left, long, some, c.requires.some)),
    )
