-- What a readiness was asked to watch, as calls come.
use Rattle.std.proofs.Common.{◌≡◌, ◌≢◌, ℕ, Bool, true, false, eqb, ◌==◌, if◌then◌else◌, List, [], ◌∷◌, ◌++◌, Option, None, refl, sym, ap, ◌∙◌, inl, inr}
use Rattle.std.proofs.lemmas.Bool.Decides.{eqb_tells}
use Rattle.rx_workers.specs.WatchLogs.{asked_last}
use Rattle.rx_workers.specs.Watching.{Watches, WatchesNothing}
use Rattle.rx_workers.specs.declared.readiness.Aim.{Aim}

-- before any call
pub asked-none : (calls : List (ℕ × Option Aim)) → calls ≡ [] → WatchesNothing (λ key. asked_last calls key None)
asked-none calls none key = ap (λ (xs : List (ℕ × Option Aim)). asked_last xs key None) none

-- behind one more call
asked_more : (calls : List (ℕ × Option Aim)) (key other : ℕ) (aim was : Option Aim)
    → asked_last (calls ++ (key, aim) ∷ []) other was ≡ (if key == other then aim else asked_last calls other was)
asked_more [] key other aim was = refl
asked_more (call ∷ calls) key other aim was = asked_more calls key other aim (if call.0 == other then call.1 else was)

asked_now : (before after : List (ℕ × Option Aim)) (key : ℕ) (aim : Option Aim) → after ≡ before ++ (key, aim) ∷ [] → (other : ℕ)
    → asked_last after other None ≡ (if key == other then aim else asked_last before other None)
asked_now before after key aim is other = ap (λ (calls : List (ℕ × Option Aim)). asked_last calls other None) is ∙ asked_more before key other aim None

pub asked-one : (before after : List (ℕ × Option Aim)) (key : ℕ) (aim : Option Aim) → after ≡ before ++ (key, aim) ∷ []
    → Watches key aim (λ other. asked_last before other None) (λ other. asked_last after other None)
asked-one before after key aim is = record {
  there = elim (eqb_tells key key) [
    | inl (same, _) ↦ asked_now before after key aim is key ∙ ap (λ (b : Bool). if b then aim else asked_last before key None) same
    | inr (_, differ) ↦ absurd (differ refl)
  ];
  others = λ other apart. elim (eqb_tells key other) [
    | inl (_, same) ↦ absurd (apart (sym same))
    | inr (differs, _) ↦ asked_now before after key aim is other ∙ ap (λ (b : Bool). if b then aim else asked_last before other None) differs
  ];
}
