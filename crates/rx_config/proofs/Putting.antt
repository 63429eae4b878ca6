-- What is put behind what stands there, piece by piece.
use Rattle.std.proofs.Common.{◌≡◌, ℕ, ◌+◌, ◌<◌, List, [], ◌∷◌, ◌++◌, length, get_or, take, sym, ap, ◌∙◌, append_assoc, append-nil}
use Rattle.std.proofs.lemmas.List.{take_more}
use Rattle.std.proofs.lemmas.Grind.{flat_map-append}
use Rattle.std.specs.List.{flat_map}

-- a piece behind another
pub put-on : (old mid new xs ys : List ℕ) → mid ≡ old ++ xs → new ≡ mid ++ ys → new ≡ old ++ (xs ++ ys)
put-on old mid new xs ys first then = then ∙ ap (λ (bytes : List ℕ). bytes ++ ys) first ∙ append_assoc old xs ys

-- the bytes of the first elements, and of one more
pub flat_map-next : {A : Type 0} (f : A → List ℕ) (xs : List A) (i : ℕ) (next : A) → i < length xs → next ≡ get_or xs i next
    → flat_map f (take (i + 1) xs) ≡ flat_map f (take i xs) ++ f next
flat_map-next f xs i next lt is =
    ap (flat_map f) (take_more xs i next lt ∙ ap (λ x. take i xs ++ x ∷ []) (sym is))
    ∙ flat_map-append f (take i xs) (next ∷ [])
    ∙ ap (λ bytes. flat_map f (take i xs) ++ bytes) (append-nil (f next))
