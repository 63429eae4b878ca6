-- The bytes of the elements of a list, one after another.
use Rattle.std.proofs.Common.{◌≡◌, ℕ, ◌+◌, ◌<◌, List, [], ◌∷◌, ◌++◌, length, get_or, take, drop, sym, ap, ◌∙◌, append-nil}
use Rattle.std.proofs.lemmas.List.{take_more, take-append-drop}
use Rattle.std.proofs.lemmas.Grind.{flat_map-append}
use Rattle.std.specs.List.{flat_map}

-- those of one element more
pub flat_map-next : {A : Type 0} (f : A → List ℕ) (xs : List A) (i : ℕ) (next : A) → i < length xs → next ≡ get_or xs i next
    → flat_map f (take (i + 1) xs) ≡ flat_map f (take i xs) ++ f next
flat_map-next f xs i next lt is =
    ap (flat_map f) (take_more xs i next lt ∙ ap (λ x. take i xs ++ x ∷ []) (sym is))
    ∙ flat_map-append f (take i xs) (next ∷ [])
    ∙ ap (λ bytes. flat_map f (take i xs) ++ bytes) (append-nil (f next))

-- those of all, parted behind one of them
pub flat_map-parts : {A : Type 0} (f : A → List ℕ) (xs : List A) (i : ℕ) (next : A) → i < length xs → next ≡ get_or xs i next
    → (flat_map f (take i xs) ++ f next) ++ flat_map f (drop (i + 1) xs) ≡ flat_map f xs
flat_map-parts f xs i next lt is =
    ap (λ bytes. bytes ++ flat_map f (drop (i + 1) xs)) (sym (flat_map-next f xs i next lt is))
    ∙ sym (flat_map-append f (take (i + 1) xs) (drop (i + 1) xs)) ∙ ap (flat_map f) (take-append-drop (i + 1) xs)
