-- Bytes that are printed one by one.
use Rattle.std.proofs.Common.{◌≡◌, ◌∙◌, ◌+◌, ◌<◌, ℕ, List, [], ◌∷◌, ◌++◌, refl, sym, ap, append_assoc, append-nil, length, take, get_or}
use Rattle.std.proofs.lemmas.List.{take_more}
use Rattle.rx_client.specs.Printed.{each}

each-then : (f : ℕ → List ℕ) (xs ys : List ℕ) → each f (xs ++ ys) ≡ each f xs ++ each f ys
each-then f [] ys = refl
each-then f (x ∷ xs) ys = ap (λ (t : List ℕ). f x ++ t) (each-then f xs ys) ∙ sym (append_assoc (f x) (each f xs) (each f ys))

-- one byte more
pub each-more : (f : ℕ → List ℕ) (text start mid after : List ℕ) (i : ℕ) → i < length text → mid ≡ start ++ each f (take i text) → after ≡ mid ++ f (get_or text i 0)
    → after ≡ start ++ each f (take (i + 1) text)
each-more f text start mid after i within so_far one =
    let more : each f (take (i + 1) text) ≡ each f (take i text) ++ f (get_or text i 0) =
    ap (each f) (take_more text i 0 within) ∙ each-then f (take i text) (get_or text i 0 ∷ []) ∙ ap (λ (t : List ℕ). each f (take i text) ++ t) (append-nil (f (get_or text i 0))) in
    one ∙ ap (λ (t : List ℕ). t ++ f (get_or text i 0)) so_far
    ∙ append_assoc start (each f (take i text)) (f (get_or text i 0))
    ∙ ap (λ (t : List ℕ). start ++ t) (sym more)
