-- What is put behind what stands there, piece by piece.
use Rattle.std.proofs.Common.{◌≡◌, ℕ, List, ◌++◌, ap, ◌∙◌, append_assoc}

-- a piece behind another
pub put-on : (old mid new xs ys : List ℕ) → mid ≡ old ++ xs → new ≡ mid ++ ys → new ≡ old ++ (xs ++ ys)
put-on old mid new xs ys first then = then ∙ ap (λ (bytes : List ℕ). bytes ++ ys) first ∙ append_assoc old xs ys
