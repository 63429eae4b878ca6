-- The lines of a body that is several texts. The rules are this project's own.
--
-- A line ends with an LF, and what stands behind the last of them is one more, unless it is empty. Lines without an LF are read back of
-- their bytes, each with an LF behind it, and so is what stands behind the last LF.
use Rattle.std.specs.Prelude.{◌≡◌, ◌≤◌, ◌==◌, ◌++◌, ℕ, Bool, List, [], ◌∷◌, length}
use Rattle.std.specs.List.{AllByRecursion, slice_split}
use Rattle.rx_http.specs.Queries.{HasNo}

-- a byte is an LF
abbrev pub is_lf : ℕ → Bool
is_lf byte = byte == 10

-- what stands behind the last LF: a line, unless it is empty
abbrev pub last_line : List ℕ → List (List ℕ)
last_line [] = []
last_line (byte ∷ bytes) = (byte ∷ bytes) ∷ []

-- the lines among the parts between which LFs stand
abbrev pub lines_among : List (List ℕ) → List (List ℕ)
lines_among [] = []
lines_among (part ∷ []) = last_line part
lines_among (part ∷ next ∷ parts) = part ∷ lines_among (next ∷ parts)

-- the lines of a body
abbrev pub lines_of : List ℕ → List (List ℕ)
lines_of body = lines_among (slice_split is_lf body)

-- a line that is a text: it has at most 1,024 bytes
abbrev pub IsShort : List ℕ → Type 0
IsShort line = length line ≤ 1024

-- lines that are emitted together: at most 256, each of them a text
pub record AreTexts (lines : List (List ℕ)) : Type 0 where
  pub few : length lines ≤ 256
  pub short : AllByRecursion IsShort lines

-- each line with an LF behind it
abbrev pub ended : List (List ℕ) → List ℕ
ended [] = []
ended (line ∷ lines) = line ++ (10 ∷ ended lines)

-- THE LAW: lines without an LF are read back of their bytes, and so is what stands behind the last LF
abbrev pub LinesAreReadBack : Type 0
LinesAreReadBack = (lines : List (List ℕ)) (rest : List ℕ) → AllByRecursion (HasNo 10) lines → HasNo 10 rest → lines_of (ended lines ++ rest) ≡ lines ++ last_line rest
