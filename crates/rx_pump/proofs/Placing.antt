-- Lists read by place.
use Rattle.std.proofs.Common.{◌≡◌, ◌≢◌, ◌∙◌, sym, refl, ap, ℕ, zero, suc, ◌+◌, zero-add, ◌<◌, List, [], ◌∷◌, ◌++◌, length, Option, Some, None, slice_get, arith}
use Rattle.std.proofs.Math.ListN.{set}
use Rattle.std.specs.Option.{option_map}

suc-place : (n i : ℕ) → suc n + i ≡ suc (n + i)
suc-place n i = omega arith

module _ {X : Type 0} where
  -- at its place stands what was written
  pub slice_get-set_same : (xs : List X) (i : ℕ) (x y : X) → slice_get xs i ≡ Some x → slice_get (set xs i y) i ≡ Some y
  slice_get-set_same [] i x y is = cc
  slice_get-set_same (z ∷ zs) zero x y is = refl
  slice_get-set_same (z ∷ zs) (suc i) x y is = slice_get-set_same zs i x y is

  -- elsewhere nothing changes
  pub slice_get-set_other : (xs : List X) (i j : ℕ) (y : X) → i ≢ j → slice_get (set xs i y) j ≡ slice_get xs j
  slice_get-set_other [] i j y other = refl
  slice_get-set_other (z ∷ zs) zero zero y other = absurd (other refl)
  slice_get-set_other (z ∷ zs) zero (suc j) y other = refl
  slice_get-set_other (z ∷ zs) (suc i) zero y other = refl
  slice_get-set_other (z ∷ zs) (suc i) (suc j) y other = slice_get-set_other zs i j y (λ same. other (ap suc same))

  -- within the list there is an element
  pub slice_get-some : (xs : List X) (i : ℕ) → i < length xs → (x : X) × (slice_get xs i ≡ Some x)
  slice_get-some [] i within = absurd (omega arith)
  slice_get-some (z ∷ zs) zero within = (z, refl)
  slice_get-some (z ∷ zs) (suc i) within = slice_get-some zs i (omega arith)

  -- an Option is the same after a map that changes nothing
  pub option_map-same : (f : X → X) (o : Option X) → ((x : X) → f x ≡ x) → o ≡ option_map f o
  option_map-same f None same = refl
  option_map-same f (Some x) same = ap Some (sym (same x))

  -- two maps one after the other
  pub option_map-then : (f g h : X → X) (o : Option X) → ((x : X) → g (f x) ≡ h x) → option_map g (option_map f o) ≡ option_map h o
  option_map-then f g h None same = refl
  option_map-then f g h (Some x) same = ap Some (same x)

  -- lists with the same element at each place are the same
  pub same_by_place : (xs ys : List X) → ((i : ℕ) → slice_get xs i ≡ slice_get ys i) → xs ≡ ys
  same_by_place [] [] same = refl
  same_by_place [] (y ∷ ys) same = let none = same 0 in cc
  same_by_place (x ∷ xs) [] same = let none = same 0 in cc
  same_by_place (x ∷ xs) (y ∷ ys) same =
      let first : x ≡ y = let some = same 0 in cc in
      let rest : xs ≡ ys = same_by_place xs ys (λ i. same (suc i)) in cc

  -- the first of two lists joined
  pub slice_get-append_left : (xs ys : List X) (i : ℕ) (x : X) → slice_get xs i ≡ Some x → slice_get (xs ++ ys) i ≡ Some x
  slice_get-append_left [] ys i x is = cc
  slice_get-append_left (z ∷ zs) ys zero x is = is
  slice_get-append_left (z ∷ zs) ys (suc i) x is = slice_get-append_left zs ys i x is

  -- the second of two lists joined
  pub slice_get-append_right : (xs ys : List X) (i : ℕ) → slice_get (xs ++ ys) (length xs + i) ≡ slice_get ys i
  slice_get-append_right [] ys i = ap (slice_get ys) (zero-add i)
  slice_get-append_right (z ∷ zs) ys i = ap (slice_get (z ∷ (zs ++ ys))) (suc-place (length zs) i) ∙ slice_get-append_right zs ys i
