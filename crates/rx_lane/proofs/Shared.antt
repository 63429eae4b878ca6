-- What waits on a tape, as items are passed, come and are lost.
use Rattle.std.proofs.Common.{◌≡◌, ℕ, zero, suc, ◌+◌, ◌-◌, ◌<◌, ◌≤◌, List, [], ◌∷◌, ◌++◌, length, map, take, drop, Option, Some, refl, sym, ap, ◌∙◌, append_assoc, option_to_list, arith}
use Rattle.std.specs.Prelude.{slice_get}
use Rattle.std.proofs.lemmas.List.{length-append, map-append, take-take, take_more}
use Rattle.std.proofs.lemmas.Option.{get_or_from_slice_get}
use Rattle.std.proofs.Math.Seq.{take-append_seam, take-add}
use Rattle.circular_buffer.proofs.Places.{slice_get-drop}
use Rattle.rx_note.specs.declared.item.Item.{Item}
use Rattle.rx_note.specs.declared.note.Note.{Note}
use Rattle.rx_note.specs.declared.note.Note.TheVariants.{Next}
use Rattle.rx_note.specs.declared.given.Given.{Given}
use Rattle.rx_tape.specs.Tapes.{TapeState, end_of, last_items, waits, pushed}
use Rattle.rx_lane.specs.Lanes.{addressed}
use Rattle.rx_lane.specs.TapeLanes.{StandsBack}
use Rattle.rx_tape.proofs.Lasts.{fewer_last}

-- the first items of two lists, one behind the other, left out
drop_both : (n : ℕ) (xs ys : List Item) → drop n (xs ++ ys) ≡ drop n xs ++ drop (n - length xs) ys
drop_both zero [] ys = refl
drop_both zero (x ∷ xs) ys = let none : zero - length (x ∷ xs) ≡ 0 = omega arith in rw none refl
drop_both (suc n) [] ys = let same : suc n - length {A = Item} [] ≡ suc n = omega arith in ap (λ m. drop m ys) (sym same)
drop_both (suc n) (x ∷ xs) ys = let same : suc n - length (x ∷ xs) ≡ n - length xs = omega arith in rw same (drop_both n xs ys)

-- the first of two lists, one behind the other
take_both : (n : ℕ) (xs ys : List Item) → take n (xs ++ ys) ≡ take n xs ++ take (n - length xs) ys
take_both zero [] ys = refl
take_both zero (x ∷ xs) ys = let none : zero - length (x ∷ xs) ≡ 0 = omega arith in rw none refl
take_both (suc n) [] ys = let same : suc n - length {A = Item} [] ≡ suc n = omega arith in ap (λ m. take m ys) (sym same)
take_both (suc n) (x ∷ xs) ys = let same : suc n - length (x ∷ xs) ≡ n - length xs = omega arith in rw same (ap (λ rest. x ∷ rest) (take_both n xs ys))

-- what waits behind those that were passed
pub passed_over : (lead new : Option Item) (items : List Item) (back count more : ℕ)
    → more ≡ count - length (option_to_list lead) → option_to_list new ≡ drop count (option_to_list lead)
    → count ≤ length (option_to_list lead) + back → (0 < back → back ≤ length items)
    → waits new items (back - more) ≡ drop count (waits lead items back)
passed_over lead new items back count more more_is new_is h within =
    ap (λ front. front ++ last_items items (back - more)) new_is
    ∙ ap (λ rest. drop count (option_to_list lead) ++ rest) (fewer_last items back more (omega (arith, more_is, h)) within)
    ∙ ap (λ n. drop count (option_to_list lead) ++ drop n (last_items items back)) more_is
    ∙ sym (drop_both count (option_to_list lead) (last_items items back))

-- the item at a place is the next one taken
pub copied : (xs : List Item) (i : ℕ) (item : Item) → i < length xs → slice_get xs i ≡ Some item → take (i + 1) xs ≡ take i xs ++ item ∷ []
copied xs i item lt is = take_more xs i item lt ∙ ap (λ x. take i xs ++ x ∷ []) (get_or_from_slice_get xs i item item is)

-- the item at a place of the last ones
pub last_at : (items : List Item) (back i : ℕ) (item : Item) → slice_get items (length items - back + i) ≡ Some item → slice_get (last_items items back) i ≡ Some item
last_at items back i item is = slice_get-drop (length items - back) items i (length items - back + i) refl ∙ is

-- notes that are addressed, and then more
pub addressed-append : (who : ℕ) (xs ys : List Note) → addressed who (xs ++ ys) ≡ addressed who xs ++ addressed who ys
addressed-append who xs ys = map-append (λ (note : Note). record { who = who; note = note }) xs ys

-- the copies of the item in front and of those behind it, one after the other
pub copied_both : (who count more : ℕ) (lead : Option Item) (items : List Item) (back : ℕ) (before middle after : List Given)
    → more ≡ count - length (option_to_list lead)
    → middle ≡ before ++ addressed who (map Next (take count (option_to_list lead)))
    → after ≡ middle ++ addressed who (map Next (take more (last_items items back)))
    → after ≡ before ++ addressed who (map Next (take count (waits lead items back)))
copied_both who count more lead items back before middle after more_is first then =
    let xs = take count (option_to_list lead) in
    let ys = take more (last_items items back) in
    then
    ∙ ap (λ put. put ++ addressed who (map Next ys)) first
    ∙ append_assoc before (addressed who (map Next xs)) (addressed who (map Next ys))
    ∙ ap (λ put. before ++ put) (sym (addressed-append who (map Next xs) (map Next ys)))
    ∙ ap (λ notes. before ++ addressed who notes) (sym (map-append Next xs ys))
    ∙ ap (λ n. before ++ addressed who (map Next (xs ++ take n (last_items items back)))) more_is
    ∙ ap (λ taken. before ++ addressed who (map Next taken)) (sym (take_both count (option_to_list lead) (last_items items back)))

-- what was put behind the first of several keeps them, so it keeps those before them
pub kept_front : (n m : ℕ) (before more middle after : List Given) → n ≡ length before → m ≡ length middle → middle ≡ before ++ more → take m after ≡ middle → take n after ≡ before
kept_front n m before more middle after n_is m_is first then =
    let longer : n ≤ m = omega (arith, n_is, m_is, ap length first, length-append before more) in
    sym (take-take n m after longer)
    ∙ ap (take n) (then ∙ first)
    ∙ ap (λ k. take k (before ++ more)) n_is
    ∙ take-append_seam before more

-- an item more on the tape, and the cursor stands one further before its end
pub pushed_on : (tape : TapeState) (item : Item) (cursor back : ℕ) → StandsBack tape cursor back → StandsBack (pushed tape item) cursor (back + 1)
pushed_on tape item cursor back stands =
    let longer = length-append tape.items (item ∷ []) in
    let same : end_of tape - back ≡ end_of (pushed tape item) - (back + 1) = omega (arith, longer, stands.within) in
    record { within = omega (arith, longer, stands.within); place = stands.place ∙ ap (λ (n : ℕ). Some n) same }

-- one more of several items is put
pub put_more : (who : ℕ) (items : List Item) (i : ℕ) (item : Item) (before middle after : List Given)
    → take (i + 1) items ≡ take i items ++ item ∷ []
    → middle ≡ before ++ addressed who (map Next (take i items))
    → after ≡ middle ++ addressed who (Next item ∷ [])
    → after ≡ before ++ addressed who (map Next (take (i + 1) items))
put_more who items i item before middle after more first then =
    then
    ∙ ap (λ put. put ++ addressed who (Next item ∷ [])) first
    ∙ append_assoc before (addressed who (map Next (take i items))) (addressed who (Next item ∷ []))
    ∙ ap (λ put. before ++ put) (sym (addressed-append who (map Next (take i items)) (Next item ∷ [])))
    ∙ ap (λ notes. before ++ addressed who notes) (sym (map-append Next (take i items) (item ∷ [])))
    ∙ ap (λ taken. before ++ addressed who (map Next taken)) (sym more)

-- the first of several items put, and then those behind them
pub put_both : (who : ℕ) (items : List Item) (n m : ℕ) (before middle after : List Given)
    → middle ≡ before ++ addressed who (map Next (take n items))
    → after ≡ middle ++ addressed who (map Next (take m (drop n items)))
    → after ≡ before ++ addressed who (map Next (take (n + m) items))
put_both who items n m before middle after first then =
    let xs = take n items in
    let ys = take m (drop n items) in
    then
    ∙ ap (λ put. put ++ addressed who (map Next ys)) first
    ∙ append_assoc before (addressed who (map Next xs)) (addressed who (map Next ys))
    ∙ ap (λ put. before ++ put) (sym (addressed-append who (map Next xs) (map Next ys)))
    ∙ ap (λ notes. before ++ addressed who notes) (sym (map-append Next xs ys))
    ∙ ap (λ taken. before ++ addressed who (map Next taken)) (sym (take-add n m items))

-- notes that are put, and then those behind them
pub put_behind : (who : ℕ) (before room middle after : List Given) (notes last : List Note)
    → room ≡ before → middle ≡ room ++ addressed who notes → after ≡ middle ++ addressed who last → after ≡ before ++ addressed who (notes ++ last)
put_behind who before room middle after notes last room_is first then =
    then
    ∙ ap (λ put. put ++ addressed who last) first
    ∙ ap (λ put. (put ++ addressed who notes) ++ addressed who last) room_is
    ∙ append_assoc before (addressed who notes) (addressed who last)
    ∙ ap (λ put. before ++ put) (sym (addressed-append who notes last))
