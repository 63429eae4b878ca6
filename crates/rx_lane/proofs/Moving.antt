-- The items taken from the front, one more.
use Rattle.std.proofs.Common.{◌≡◌, ℕ, zero, suc, ◌+◌, List, [], ◌∷◌, ◌++◌, take, drop, Some, ap, ◌∙◌, arith}
use Rattle.std.specs.Prelude.{slice_get}
use Rattle.rx_note.specs.declared.item.Item.{Item}

taken-next : (xs : List Item) (i : ℕ) (item : Item) → Some item ≡ slice_get (drop i xs) 0 → take (suc i) xs ≡ take i xs ++ item ∷ []
taken-next [] zero item is = absurd cc
taken-next [] (suc i) item is = absurd cc
taken-next (x ∷ xs) zero item is = let same : x ≡ item = cc in ap (λ y. y ∷ []) same
taken-next (x ∷ xs) (suc i) item is = ap (λ ys. x ∷ ys) (taken-next xs i item is)

-- the item in front of the rest is the next one taken
pub taken-more : (xs : List Item) (i : ℕ) (item : Item) → Some item ≡ slice_get (drop i xs) 0 → take (i + 1) xs ≡ take i xs ++ item ∷ []
taken-more xs i item is = let next : i + 1 ≡ suc i = omega arith in ap (λ n. take n xs) next ∙ taken-next xs i item is
