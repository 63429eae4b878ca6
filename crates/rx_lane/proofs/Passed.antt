-- A tape, as items that every cursor has passed are taken off.
use Rattle.std.proofs.Common.{◌≡◌, ℕ, ◌+◌, ◌-◌, ◌≤◌, List, ◌∷◌, [], ◌++◌, length, take, drop, Option, Some, option_to_list, sym, ap, ◌∙◌, arith}
use Rattle.std.specs.Prelude.{slice_get}
use Rattle.std.proofs.lemmas.List.{length-drop, drop-drop}
use Rattle.rx_note.specs.declared.item.Item.{Item}
use Rattle.rx_tape.specs.Tapes.{TapeState, with_fewer, HavePassed, last_items, waits}
use Rattle.rx_lane.proofs.Moving.{taken-more}

-- items more
pub taken_off : (tape : TapeState) (n m : ℕ) → with_fewer (with_fewer tape n) m ≡ with_fewer tape (n + m)
taken_off tape n m =
    let front : tape.front + n + m ≡ tape.front + (n + m) = omega arith in
    ap (λ (at : ℕ). record { front = at; items = drop m (drop n tape.items); places = tape.places }) front
    ∙ ap (λ (items : List Item). record { front = tape.front + (n + m); items = items; places = tape.places }) (drop-drop m n tape.items)

-- the others have been passed still
pub passed_still : (tape : TapeState) (n m count : ℕ) → n + m ≤ count → HavePassed tape count → HavePassed (with_fewer tape n) m
passed_still tape n m count h passed = λ cursor place is. let past = passed cursor place is in omega (arith, h, past)

-- none taken off
pub none_off : (tape : TapeState) → tape ≡ with_fewer tape 0
none_off tape = let front : tape.front ≡ tape.front + 0 = omega arith in ap (λ (at : ℕ). record { front = at; items = tape.items; places = tape.places }) front

-- the first of the rest is the next one
pub next_off : (items : List Item) (n : ℕ) (item : Item) → slice_get (drop n items) 0 ≡ Some item → take (n + 1) items ≡ take n items ++ item ∷ []
next_off items n item is = taken-more items n item (sym is)

-- all of them are the last ones
pub all_last : (items : List Item) (back : ℕ) → back ≡ length items → last_items items back ≡ items
all_last items back all = let none : length items - back ≡ 0 = omega (arith, all) in ap (λ n. drop n items) none

-- the last ones stay as long as so many are left
pub last_stay : (lead : Option Item) (items left : List Item) (n back : ℕ) → left ≡ drop n items → n + back ≤ length items → waits lead left back ≡ waits lead items back
last_stay lead items left n back left_is h =
    let long = length-drop n items in
    let same : n + (length (drop n items) - back) ≡ length items - back = omega (arith, long, h) in
    ap (λ (xs : List Item). waits lead xs back) left_is
    ∙ ap (λ (xs : List Item). option_to_list lead ++ xs) (drop-drop (length (drop n items) - back) n items ∙ ap (λ k. drop k items) same)
