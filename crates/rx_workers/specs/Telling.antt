-- What is known of a moment that several threads may ask for (this project's own rule).
use Rattle.std.specs.Prelude.{ℕ}

-- a moment was told, in some state
abbrev pub IsTold : {M : Type 0} → (M → ℕ → M → Type 0) → ℕ → Type 0
IsTold {M = M} tells moment = (before : M) × (after : M) × tells before moment after
