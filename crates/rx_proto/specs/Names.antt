-- What a name is.
use Rattle.std.specs.Prelude.{◌≡◌, ◌≤◌, ◌⊎◌, ℕ, List, length}
use Rattle.std.specs.List.{AllByRecursion}

-- a byte of a name: a to z, 0 to 9 or -
abbrev pub IsNameByte : ℕ → Type 0
IsNameByte byte = ((97 ≤ byte) × (byte ≤ 122)) ⊎ ((48 ≤ byte) × (byte ≤ 57)) ⊎ (byte ≡ 45)

-- a name: 1 to 32 such bytes
pub record IsName (bytes : List ℕ) : Type 0 where
  pub some : 1 ≤ length bytes
  pub few : length bytes ≤ 32
  pub each : AllByRecursion IsNameByte bytes
