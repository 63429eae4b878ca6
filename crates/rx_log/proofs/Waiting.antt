-- The calls that wait, by their place among them.
use Rattle.std.proofs.Common.{◌≡◌, ℕ, zero, suc, List, [], ◌∷◌, ◌++◌, drop, Some, refl}
use Rattle.std.specs.Prelude.{slice_get}

-- what stands at a place stands there still with more behind it
pub get-push : {X : Type 0} (xs ys : List X) (k : ℕ) (x : X) → slice_get xs k ≡ Some x → slice_get (xs ++ ys) k ≡ Some x
get-push [] ys k x is = absurd cc
get-push (y ∷ xs) ys zero x is = is
get-push (y ∷ xs) ys (suc k) x is = get-push xs ys k x is

-- without the first each stands one place before
pub get-drop1 : {X : Type 0} (xs : List X) (k : ℕ) → slice_get (drop 1 xs) k ≡ slice_get xs (suc k)
get-drop1 [] k = refl
get-drop1 (x ∷ xs) k = refl

-- the first of what is left
pub get-drop : {X : Type 0} (n : ℕ) (xs : List X) → slice_get (drop n xs) 0 ≡ slice_get xs n
get-drop zero xs = refl
get-drop (suc n) [] = refl
get-drop (suc n) (x ∷ xs) = get-drop n xs
