-- A fact of each pass's view, as steps change the views.
use Rattle.std.proofs.Common.{◌≡◌, ◌≢◌, ◌⊎◌, ℕ, zero, suc, cond, eqb, List, [], ◌∷◌, ◌++◌, length, set, refl, sym, ap, subst, inl, inr, ⊎_elim, eq-eqb, ne_eqb}
use mathlib.Core.Option.{some, some-injective, some-ne-none}
use lib.ListN.{get_elem?}
use Rattle.atomic_table.proofs.Lists.{at_set}

-- a function changed at one number
abbrev pub put : {A : Type 0} → ℕ → A → (ℕ → A) → ℕ → A
put at value f n = cond (eqb n at) value (f n)

pub put-here : {A : Type 0} (at n : ℕ) (value : A) (f : ℕ → A) → n ≡ at → put at value f n ≡ value
put-here at n value f here = ap (λ b. cond b value (f n)) (eq-eqb n at here)

pub put-else : {A : Type 0} (at n : ℕ) (value : A) (f : ℕ → A) → n ≢ at → put at value f n ≡ f n
put-else at n value f apart = ap (λ b. cond b value (f n)) (ne_eqb n at apart)

module _ {V : Type 0} where
  -- F holds of the number and the view of each pass
  abbrev pub Each : (ℕ → V → Type 0) → List V → Type 0
  Each F views = (pass : ℕ) (v : V) → get_elem? views pass ≡ some v → F pass v

  moved : (F : ℕ → V → Type 0) (i j : ℕ) (v u : V) → j ≡ i → v ≡ u → F i v → F j u
  moved F i j v u at is h = subst (λ (p : ℕ × V). F p.0 p.1) (λ k. (sym at k, is k)) h

  at_end : (views : List V) (last v : V) (pass : ℕ) → get_elem? (views ++ last ∷ []) pass ≡ some v → (get_elem? views pass ≡ some v) ⊎ ((pass ≡ length views) × (last ≡ v))
  at_end [] last v zero e = inr (refl, some-injective last v e)
  at_end [] last v (suc pass) e = absurd (some-ne-none v (sym e))
  at_end (x ∷ xs) last v zero e = inl e
  at_end (x ∷ xs) last v (suc pass) e = ⊎_elim (λ t. inl t) (λ t. inr (ap suc t.0, t.1)) (at_end xs last v pass e)

  -- a change of one view
  pub Each-set : (F : ℕ → V → Type 0) (views : List V) (pass : ℕ) (w : V) → F pass w → ((j : ℕ) (u : V) → j ≢ pass → get_elem? views j ≡ some u → F j u) → Each F (set views pass w)
  Each-set F views pass w mine others j u e = ⊎_elim (λ t. moved F pass j w u t.0 t.1 mine) (λ t. others j u t.0 t.1) (at_set views pass j w u e)

  -- a new pass
  pub Each-push : (F : ℕ → V → Type 0) (views : List V) (w : V) → F (length views) w → Each F views → Each F (views ++ w ∷ [])
  Each-push F views w last before j u e = ⊎_elim (λ t. before j u t) (λ t. moved F (length views) j w u t.0 t.1 last) (at_end views w u j e)
