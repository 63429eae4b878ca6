-- A cursor that is put stands at its place, and no other cursor moves.
use Rattle.std.proofs.Common.{◌≡◌, ℕ, ◌<◌, List, length, Option, None, true, is_some, inl, inr}
use Rattle.std.proofs.lemmas.Bool.{cases_lt}
use Rattle.std.proofs.lemmas.List.{get_or-set_same, get_or-set_other, get_or_past}
use Rattle.rx_tape.specs.Tapes.{place_of}
use Rattle.rx_tape.proofs.places.put_in.Goals as goal

-- past the list no cursor stands
within : (places : List (Option ℕ)) (cursor : ℕ) → is_some (place_of places cursor) ≡ true → cursor < length places
within places cursor some = elim (cases_lt cursor (length places)) [ inl lt ↦ lt | inr le ↦ let past = get_or_past places cursor None le in absurd cc ]

pub returns-then-is_some-clause-moved : goal.returns-then-is_some-clause-moved
returns-then-is_some-clause-moved c = λ some.
    let slots = c.args.slots.now.items in
    record {
      place_is = get_or-set_same slots c.args.cursor c.args.place None (within slots c.args.cursor some);
      others = λ other ne. get_or-set_other slots c.args.cursor other c.args.place None ne;
    }
