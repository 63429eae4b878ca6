-- What an epoch is: what tells one start of a server from any other. The rules are this project's own.
use Rattle.std.specs.Prelude.{◌≤◌, ◌⊎◌, ℕ, List, length}
use Rattle.std.specs.List.{AllByRecursion}

-- a byte of an epoch: 0 to 9 or a to z
abbrev pub IsEpochByte : ℕ → Type 0
IsEpochByte byte = ((48 ≤ byte) × (byte ≤ 57)) ⊎ ((97 ≤ byte) × (byte ≤ 122))

-- an epoch: 1 to 16 such bytes, so that a hyphen ends it
pub record IsEpoch (bytes : List ℕ) : Type 0 where
  pub some : 1 ≤ length bytes
  pub few : length bytes ≤ 16
  pub each : AllByRecursion IsEpochByte bytes
