-- What writing does to the bytes that a writer holds, where those are known.
use Rattle.std.specs.Prelude.{◌≡◌, ℕ, List, ◌++◌, Option, Result, MatchResult}
use Rattle.std.specs.Io.KnownBytes.{Appends}

-- known bytes grow by a front of some bytes
pub record AppendsPrefix (old new : Option (List ℕ)) (bytes : List ℕ) : Type 0 where
  pub front : List ℕ
  pub back : List ℕ
  pub parts : front ++ back ≡ bytes
  pub told : Appends old new front

-- what a call that writes bytes did: all of them are written at Ok, and a front of them at Err
abbrev pub Writes : {T E : Type 0} → Result T E → Option (List ℕ) → Option (List ℕ) → List ℕ → Type 0
Writes result old new bytes = MatchResult result (λ _. Appends old new bytes) (λ _. AppendsPrefix old new bytes)
