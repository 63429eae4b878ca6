-- What the key of an emission is, by which its producer names it: who sends it again, since no answer came, says the same key (this
-- project's own rules, by the header `Idempotency-Key` of the IETF's draft of that name).
use Rattle.std.specs.Prelude.{◌≡◌, ◌≤◌, ℕ, List, length, Option, None, Some}
use Rattle.std.specs.List.{AllByRecursion}

-- a byte of a key: a visible character of ASCII
abbrev pub IsKeyByte : ℕ → Type 0
IsKeyByte byte = (33 ≤ byte) × (byte ≤ 126)

-- a key: 1 to 64 such bytes
pub record IsKey (bytes : List ℕ) : Type 0 where
  pub some : 1 ≤ length bytes
  pub few : length bytes ≤ 64
  pub each : AllByRecursion IsKeyByte bytes

-- the key that the value of a field says; without that field there is none
abbrev pub SaysKey : Option (List ℕ) → Option (List ℕ) → Type 0
SaysKey None None = Unit {0}
SaysKey None (Some key) = ⊥
SaysKey (Some word) None = ⊥
SaysKey (Some word) (Some key) = IsKey word × (key ≡ word)
