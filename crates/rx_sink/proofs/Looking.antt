-- The places of a list that were looked at, from one on down to the first, and then from behind that one up.
use Rattle.std.proofs.Common.{◌≡◌, ◌∙◌, refl, ap, ℕ, suc, ◌+◌, ◌<◌, ◌≤◌, ◌⊎◌, inl, inr, if◌then◌else◌, Bool, false, List, [], ◌∷◌, Some, None, slice_get, arith}
use Rattle.std.proofs.lemmas.Bool.{cases_lt}
use Rattle.std.proofs.lemmas.Iterator.Adapters.{position_from-zero}
use Rattle.std.specs.List.{position, position_from}

-- after so many steps from the first place looked at this place was looked at
abbrev pub IsLookedAt : ℕ → ℕ → ℕ → Type 0
IsLookedAt first steps i = ((i ≤ first) × (first < i + steps)) ⊎ ((first < i) × (i < steps))

pub looked_none : (first i : ℕ) → IsLookedAt first 0 i → ⊥
looked_none first i (inl (le, lt)) = omega (arith, le, lt)
looked_none first i (inr (gt, lt)) = omega (arith, lt)

-- the next place is that of this step
pub looked_next : (first steps place i : ℕ) → (steps ≤ first → place + steps ≡ first) → (first < steps → place ≡ steps) → IsLookedAt first (steps + 1) i
    → (i ≡ place) ⊎ IsLookedAt first steps i
looked_next first steps place i down up (inl (le, lt)) =
    elim (cases_lt first (i + steps)) [
      | inl before ↦ inr (inl (le, before))
      | inr now ↦ (let is = down (omega (arith, now)) in inl (omega (arith, now, lt, is)))
    ]
looked_next first steps place i down up (inr (gt, lt)) =
    elim (cases_lt i steps) [
      | inl before ↦ inr (inr (gt, before))
      | inr now ↦ (let is = up (omega (arith, now, gt, lt)) in inl (omega (arith, now, lt, is)))
    ]

-- after as many steps as there are places all were
pub looked_all : (first many i : ℕ) → first < many → i < many → IsLookedAt first many i
looked_all first many i within lt =
    elim (cases_lt first i) [
      | inl behind ↦ inr (behind, lt)
      | inr before ↦ inl (before, omega (arith, within))
    ]

module _ {X : Type 0} (p : X → Bool) where
  none_from : (xs : List X) (from : ℕ) → ((i : ℕ) (x : X) → slice_get xs i ≡ Some x → p x ≡ false) → position_from p from xs ≡ None
  none_from [] from none = refl
  none_from (x ∷ xs) from none =
      ap (λ b. if b then Some from else position_from p (from + 1) xs) (none 0 x refl) ∙ none_from xs (from + 1) (λ i y at. none (suc i) y at)

  -- no place has it
  pub position-none : (xs : List X) → ((i : ℕ) (x : X) → slice_get xs i ≡ Some x → p x ≡ false) → position p xs ≡ None
  position-none xs none = position_from-zero p xs ∙ none_from xs 0 none
