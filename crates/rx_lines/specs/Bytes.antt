-- What putting bytes into an outbox does to the bytes that it holds, and to those of the writer for which it holds them.
use Rattle.std.specs.Prelude.{◌≡◌, ℕ, List, [], ◌++◌, Option, Result, MatchResult}
use Rattle.std.specs.Io.KnownBytes.{Appends}
use Rattle.rx_proto.specs.Bytes.{AppendsPrefix}

-- some bytes were put behind those held before: a front of them all is written, and the rest is held
pub record Holds (held after : List ℕ) (old new : Option (List ℕ)) (bytes : List ℕ) : Type 0 where
  pub written : List ℕ
  pub told : Appends old new written
  pub parts : written ++ after ≡ held ++ bytes

-- putting them failed: a front of them all is written, and nothing is held
pub record Loses (held after : List ℕ) (old new : Option (List ℕ)) (bytes : List ℕ) : Type 0 where
  pub written : AppendsPrefix old new (held ++ bytes)
  pub empty : after ≡ []

-- what a call that puts bytes did
abbrev pub Puts : {T E : Type 0} → Result T E → List ℕ → List ℕ → Option (List ℕ) → Option (List ℕ) → List ℕ → Type 0
Puts result held after old new bytes = MatchResult result (λ _. Holds held after old new bytes) (λ _. Loses held after old new bytes)
