-- The lines of some bytes.
use Rattle.std.specs.Prelude.{◌≡◌, ◌==◌, ℕ, List, [], ◌∷◌, ◌++◌, map, Bool, Option}
use Rattle.std.specs.List.{slice_split}
use Rattle.std.specs.Io.KnownBytes.{Consumes}
use Rattle.std.specs.Io.BufRead.{strip_last}
use Rattle.rx_proto.specs.LineFeeds.{HasNoLf}

-- a line without the one CR that may stand at its end
abbrev pub without_cr : List ℕ → List ℕ
without_cr line = strip_last 13 line

-- a byte is an LF
abbrev pub is_lf : ℕ → Bool
is_lf byte = byte == 10

-- all parts but the last
abbrev pub finished : List (List ℕ) → List (List ℕ)
finished [] = []
finished (part ∷ []) = []
finished (part ∷ next ∷ parts) = part ∷ finished (next ∷ parts)

-- the lines of the bytes: what stands before each LF, without the one CR directly before it; what stands behind the last
-- LF is no line
abbrev pub lines_of : List ℕ → List (List ℕ)
lines_of bytes = map without_cr (finished (slice_split is_lf bytes))

-- the bytes begin with a line and its LF, and the rest stands behind them
pub record BeginsWithLine (bytes line rest : List ℕ) : Type 0 where
  pub parts : bytes ≡ line ++ (10 ∷ rest)
  pub one : HasNoLf line

-- reads gave some bytes, and what was unread before them begins with a line of which something is said
pub record TakesLine (old new : Option (List ℕ)) (unread rest : List ℕ) (says : List ℕ → Type 0) : Type 0 where
  pub read : List ℕ
  pub line : List ℕ
  pub told : Consumes old new read
  pub begins : BeginsWithLine (unread ++ read) line rest
  pub said : says (without_cr line)

-- reads gave some bytes, and no line ends among them and what was unread before them
pub record TakesNoLine (old new : Option (List ℕ)) (unread : List ℕ) : Type 0 where
  pub read : List ℕ
  pub told : Consumes old new read
  pub none : HasNoLf (unread ++ read)
