-- Where no element passes a test.
use Rattle.std.proofs.Common.{◌≡◌, ℕ, ◌<◌, ◌≤◌, Bool, true, false, cond, nat_lt, List, length, get_or, None, Some, position, refl, arith}
use Rattle.std.proofs.lemmas.List.Sums.{fails_before_first}
use Rattle.std.proofs.lemmas.Bool.Decides.{nat_tests}
use Rattle.std.specs.List.{position_or_len}

not_before : (a b : ℕ) (t : Bool) → nat_lt a b ≡ t → cond t (Some a) None ≡ None → b ≤ a
not_before a b true e none = cc
not_before a b false e none = grind (arith, nat_tests)

-- where no position is found, no element passes
pub position-None : {X : Type 0} (p : X → Bool) (xs : List X) → position p xs ≡ None → (k : ℕ) (d : X) → k < length xs → p (get_or xs k d) ≡ false
position-None p xs none k d lt =
    let past = not_before (position_or_len p xs) (length xs) (nat_lt (position_or_len p xs) (length xs)) refl none in
    fails_before_first p xs k d (omega (arith, lt, past))

below : (a b i : ℕ) (t : Bool) → nat_lt a b ≡ t → cond t (Some a) None ≡ Some i → i < b
below a b i true e found = let same : a ≡ i = cc in grind (arith, nat_tests)
below a b i false e found = cc

-- a position that is found is one of the list
pub position-within : {X : Type 0} (p : X → Bool) (xs : List X) (i : ℕ) → position p xs ≡ Some i → i < length xs
position-within p xs i found = below (position_or_len p xs) (length xs) i (nat_lt (position_or_len p xs) (length xs)) refl found
