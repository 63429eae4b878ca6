-- What the reader of an event sink hears.
use Rattle.std.proofs.Common.{◌≡◌, ℕ, ◌-◌, ◌==◌, Bool, true, false, nat_lt, List, [], ◌∷◌, ◌++◌, Some, refl, ap, arith}
use Rattle.std.proofs.lemmas.Bool.Decides.{nat_tests}
use Rattle.rx_note.specs.declared.item.Item.{Item}
use Rattle.rx_note.specs.declared.note.Note.{Note}
use Rattle.rx_note.specs.declared.note.Note.TheVariants.{Next, Completed, Failed}
use Rattle.rx_http.specs.Accounts.{heard_by}
use Rattle.rx_http.specs.Resuming.{Missed, Over, Seeded, Told, told, told_item}
use Rattle.rx_events.specs.Hearing.{NotesAreHeard, known_before, of_subject}
use Rattle.rx_events.specs.Telling.{count_to, is_overflow, is_seed, item_events, left_out, notes_events, standing_behind}
use Rattle.rx_events.specs.declared.standing.Standing.{Standing}

not_below-self : (n : ℕ) → nat_lt n n ≡ false
not_below-self n = grind (arith, nat_tests)

same-self : (n : ℕ) → (n == n) ≡ true
same-self n = grind (arith, nat_tests)

none-left : (place count : ℕ) → (place == count) ≡ true → (place - count == 0) ≡ true
none-left place count same = grind (arith, nat_tests)

some-left : (place count : ℕ) → nat_lt place count ≡ false → (place == count) ≡ false → (place - count == 0) ≡ false
some-left place count above other = grind (arith, nat_tests)

-- what is heard of the rest of some notes by a reader that stands anyhow
abbrev RestIsHeard : List Note → Type 0
RestIsHeard notes = (s : Standing) → heard_by (notes_events s notes) ≡ told (of_subject s.bounded notes) (known_before s notes)

-- an item is heard as it is told
abbrev ItemIsHeard : Standing → Item → List Note → Type 0
ItemIsHeard s item notes =
    heard_by (item_events (left_out s item) item ++ notes_events (standing_behind s item) notes)
    ≡ told_item (known_before s (Next item ∷ notes)) item (told (of_subject s.bounded notes))

item-heard : (s : Standing) (item : Item) (notes : List Note) (seed fresh below here : Bool) → is_seed item ≡ seed → s.fresh ≡ fresh
    → nat_lt item.place (count_to s.known) ≡ below → (item.place == count_to s.known) ≡ here → RestIsHeard notes → ItemIsHeard s item notes
item-heard s item notes true true below here a b c d rest = simp (a, b) (ap (λ l. Seeded item ∷ l) (simp b at (rest s)))
item-heard s item notes true false below here a b c d rest = simp (a, b) (ap (λ l. Seeded item ∷ l) (simp b at (rest s)))
item-heard s item notes false true below here a b c d rest =
    simp (a, b, not_below-self item.place, same-self item.place) (ap (λ l. Told item ∷ l) (rest (record { known = Some item.place; fresh = false; bounded = s.bounded })))
item-heard s item notes false false true here a b c d rest = simp (a, b, c) (simp b at (rest s))
item-heard s item notes false false false true a b c d rest =
    simp (a, b, c, d, none-left item.place (count_to s.known) d) (ap (λ l. Told item ∷ l) (rest (record { known = Some item.place; fresh = false; bounded = s.bounded })))
item-heard s item notes false false false false a b c d rest =
    simp (a, b, c, d, some-left item.place (count_to s.known) c d)
    (ap (λ l. Missed (item.place - count_to s.known) ∷ Told item ∷ l) (rest (record { known = Some item.place; fresh = false; bounded = s.bounded })))

failed-heard : (s : Standing) (text : List ℕ) (notes : List Note) (over : Bool) → is_overflow s.bounded text ≡ over
    → heard_by (notes_events s notes) ≡ told (of_subject s.bounded notes) (known_before s notes)
    → heard_by (notes_events s (Failed text ∷ notes)) ≡ told (of_subject s.bounded (Failed text ∷ notes)) (known_before s notes)
failed-heard s text notes true is rest = simp is rest
failed-heard s text notes false is rest = simp is (ap (λ l. Over (Failed text) ∷ l) rest)

pub notes_are_heard : NotesAreHeard
notes_are_heard s [] = refl
notes_are_heard s (Next item ∷ notes) =
    item-heard s item notes (is_seed item) s.fresh (nat_lt item.place (count_to s.known)) (item.place == count_to s.known) refl refl refl refl (λ r. notes_are_heard r notes)
notes_are_heard s (Completed ∷ notes) = ap (λ l. Over Completed ∷ l) (notes_are_heard s notes)
notes_are_heard s (Failed text ∷ notes) = failed-heard s text notes (is_overflow s.bounded text) refl (notes_are_heard s notes)
