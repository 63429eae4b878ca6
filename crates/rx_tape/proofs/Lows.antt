-- The lowest of several places, and what may be removed.
use Rattle.std.proofs.Common.{◌≡◌, ℕ, zero, suc, ◌+◌, ◌≤◌, min, List, [], ◌∷◌, ◌++◌, length, drop, Option, None, Some, refl, sym, ap, ◌∙◌, arith}
use Rattle.rx_note.specs.declared.item.Item.{Item}
use Rattle.rx_tape.specs.Tapes.{TapeState, end_of, place_of, lower_of, lowest, passed, trimmed}

-- a place more at the end
pub lowest-more : (places : List (Option ℕ)) (place : Option ℕ) (bound : ℕ) → lowest (places ++ place ∷ []) bound ≡ lower_of place (lowest places bound)
lowest-more [] place bound = refl
lowest-more (None ∷ places) place bound = lowest-more places place bound
lowest-more (Some p ∷ places) None bound = ap (min p) (lowest-more places None bound)
lowest-more (Some p ∷ places) (Some q) bound = let more = lowest-more places (Some q) bound in omega (arith, more)

-- no place is below the lowest
pub lowest-le : (places : List (Option ℕ)) (bound cursor place : ℕ) → place_of places cursor ≡ Some place → lowest places bound ≤ place
lowest-le [] bound cursor place is = absurd cc
lowest-le (None ∷ places) bound zero place is = absurd cc
lowest-le (Some p ∷ places) bound zero place is = let same : p ≡ place = cc in omega (arith, same)
lowest-le (None ∷ places) bound (suc cursor) place is = lowest-le places bound cursor place is
lowest-le (Some p ∷ places) bound (suc cursor) place is = let rest = lowest-le places bound cursor place is in omega (arith, rest)

-- what is below the bound and every place is below the lowest
pub le-lowest : (n : ℕ) (places : List (Option ℕ)) (bound : ℕ) → n ≤ bound → ((cursor place : ℕ) → place_of places cursor ≡ Some place → n ≤ place) → n ≤ lowest places bound
le-lowest n [] bound h below = h
le-lowest n (None ∷ places) bound h below = le-lowest n places bound h (λ cursor place is. below (suc cursor) place is)
le-lowest n (Some p ∷ places) bound h below =
    let rest = le-lowest n places bound h (λ cursor place is. below (suc cursor) place is) in
    let first = below zero p refl in
    omega (arith, rest, first)

-- where nothing has to go the tape is trimmed
nothing_goes : (tape : TapeState) (keep : ℕ) → passed tape keep ≡ 0 → tape ≡ trimmed tape keep
nothing_goes tape keep none =
    let front : tape.front ≡ tape.front + passed tape keep = omega (arith, none) in
    let items : tape.items ≡ drop (passed tape keep) tape.items = ap (λ n. drop n tape.items) (sym none) in
    ap (λ (n : ℕ). record tape { front = n }) front
    ∙ ap (λ (left : List Item). record { front = tape.front + passed tape keep; items = left; places = tape.places }) items

-- a cursor at the front holds every item
pub held_back : (tape : TapeState) (keep cursor : ℕ) → place_of tape.places cursor ≡ Some tape.front → tape ≡ trimmed tape keep
held_back tape keep cursor is =
    let low = lowest-le tape.places (end_of tape) cursor tape.front is in
    nothing_goes tape keep (omega (arith, low))

-- no more items are there than are to be kept
pub all_kept : (tape : TapeState) (keep : ℕ) → length tape.items ≤ keep → tape ≡ trimmed tape keep
all_kept tape keep h = nothing_goes tape keep (omega (arith, h))
