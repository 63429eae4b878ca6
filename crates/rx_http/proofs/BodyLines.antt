-- The lines of a body are read one by one.
use Rattle.std.proofs.Common.{◌≡◌, ◌<◌, ℕ, List, [], ◌∷◌, ◌++◌, length, refl, ap, ◌∙◌, append_assoc, arith}
use Rattle.std.proofs.lemmas.List.Splits.{length-slice_split}
use Rattle.std.specs.List.{slice_split}
use Rattle.rx_http.specs.BodyLines.{LinesAreReadBack, ended, is_lf, last_line, lines_among, lines_of}
use Rattle.rx_http.specs.Queries.{HasNo}

-- what stands before an LF is the first part
split-at : (front rest : List ℕ) → HasNo 10 front → slice_split is_lf (front ++ (10 ∷ rest)) ≡ front ∷ slice_split is_lf rest
split-at [] rest none = refl
split-at (byte ∷ front) rest none = rw (none.0, split-at front rest none.1) refl

-- bytes without an LF are one part
split-whole : (bytes : List ℕ) → HasNo 10 bytes → slice_split is_lf bytes ≡ bytes ∷ []
split-whole [] none = refl
split-whole (byte ∷ bytes) none = rw (none.0, split-whole bytes none.1) refl

-- a part before others is a line
among-next : (part : List ℕ) (parts : List (List ℕ)) → 0 < length parts → lines_among (part ∷ parts) ≡ part ∷ lines_among parts
among-next part [] some = absurd (omega (arith, some))
among-next part (next ∷ parts) some = refl

-- bytes before an LF are the first line
pub line-ended : (front rest : List ℕ) → HasNo 10 front → lines_of (front ++ (10 ∷ rest)) ≡ front ∷ lines_of rest
line-ended front rest none =
    ap lines_among (split-at front rest none) ∙ among-next front (slice_split is_lf rest) (omega (arith, length-slice_split is_lf rest))

-- bytes without an LF are the last line, unless there is none
pub line-last : (bytes : List ℕ) → HasNo 10 bytes → lines_of bytes ≡ last_line bytes
line-last bytes none = ap lines_among (split-whole bytes none)

pub read_back : LinesAreReadBack
read_back [] rest each none = line-last rest none
read_back (line ∷ lines) rest each none =
    ap lines_of (append_assoc line (10 ∷ ended lines) rest) ∙ line-ended line (ended lines ++ rest) each.0 ∙ ap (λ l. line ∷ l) (read_back lines rest each.1 none)
