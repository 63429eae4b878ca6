-- What a window on a reader's bytes does.
use Rattle.std.specs.Prelude.{◌≡◌, ◌<◌, ◌≤◌, ◌+◌, ℕ, List, ◌++◌, length, take, drop, Option, Result, Ok, Err, MatchResult, MatchOption}
use Rattle.std.specs.List.{between}
use Rattle.std.specs.Io.KnownBytes.{Consumes, IsAtEnd, Keeps}
use Rattle.rx_proto.specs.LineFeeds.{HasNoLf}
use Rattle.rx_lines.specs.Lines.{BeginsWithLine}

-- the first LF of the bytes stands behind so many of them
pub record HasLfAt (bytes : List ℕ) (len : ℕ) : Type 0 where
  pub within : len < length bytes
  pub line : BeginsWithLine bytes (take len bytes) (drop (len + 1) bytes)

-- where the first LF of the bytes stands, if there is one
abbrev pub FindsLf : Option ℕ → List ℕ → Type 0
FindsLf found bytes = MatchOption found (HasNoLf bytes) (HasLfAt bytes)

-- how many bytes a read gave
abbrev pub count_of : {E : Type 0} → Result ℕ E → ℕ
count_of (Ok count) = count
count_of (Err fault) = 0

-- a read put what it gave behind the window, nothing only at the end of the input; one that failed changed nothing
abbrev pub Fills : {E : Type 0} → Result ℕ E → Option (List ℕ) → Option (List ℕ) → List ℕ → List ℕ → Type 0
Fills result old new window after =
    MatchResult result (λ n. (read : List ℕ) × Consumes old new read × (after ≡ window ++ read) × (length read ≡ n) × (n ≡ 0 → IsAtEnd new)) (λ _. Keeps old new × (after ≡ window))

-- the bytes of a block from start to end, up to searched without an LF
pub record IsWindow (block : List ℕ) (start searched end : ℕ) : Type 0 where
  pub ordered : start ≤ searched
  pub within : searched ≤ end
  pub room : end ≤ 8192
  pub passed : HasNoLf (between start searched block)
