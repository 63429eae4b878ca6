-- The lines of some bytes, one after another.
use Rattle.std.proofs.Common.{◌≡◌, ℕ, true, false, List, [], ◌∷◌, ◌++◌, map, refl, ap, ◌∙◌, append_assoc, cond}
use Rattle.std.proofs.lemmas.Bool.{ne_eqb}
use Rattle.std.specs.List.{slice_split, onto_first}
use Rattle.rx_proto.specs.LineFeeds.{HasNoLf}
use Rattle.rx_lines.specs.Lines.{BeginsWithLine, is_lf, finished, lines_of, without_cr}

-- the first part ends at the first LF
slice_split-line : (line rest : List ℕ) → HasNoLf line → slice_split is_lf (line ++ (10 ∷ rest)) ≡ line ∷ slice_split is_lf rest
slice_split-line [] rest none = refl
slice_split-line (byte ∷ line) rest none = rw (ne_eqb byte 10 none.0, slice_split-line line rest none.1) refl

-- bytes with no LF are one part
slice_split-whole : (bytes : List ℕ) → HasNoLf bytes → slice_split is_lf bytes ≡ bytes ∷ []
slice_split-whole [] none = refl
slice_split-whole (byte ∷ bytes) none = rw (ne_eqb byte 10 none.0, slice_split-whole bytes none.1) refl

-- a part before others is finished
finished-first : (line bytes : List ℕ) → finished (line ∷ slice_split is_lf bytes) ≡ line ∷ finished (slice_split is_lf bytes)
finished-first line [] = refl
finished-first line (byte ∷ bytes) =
    elim (is_lf byte) as (λ is. finished (line ∷ cond is ([] ∷ slice_split is_lf bytes) (onto_first byte (slice_split is_lf bytes))) ≡ line ∷ finished (cond is ([] ∷ slice_split is_lf bytes) (onto_first byte (slice_split is_lf bytes)))) [
      | true ↦ refl
      | false ↦ elim (slice_split is_lf bytes) as (λ parts. finished (line ∷ onto_first byte parts) ≡ line ∷ finished (onto_first byte parts)) [ [] ↦ refl | part ∷ parts ↦ refl ]
    ]

-- the first line and the lines of the rest
pub lines_of-first : (bytes line rest : List ℕ) → BeginsWithLine bytes line rest → lines_of bytes ≡ without_cr line ∷ lines_of rest
lines_of-first bytes line rest begins =
    ap lines_of begins.parts ∙ ap (λ parts. map without_cr (finished parts)) (slice_split-line line rest begins.one) ∙ ap (map without_cr) (finished-first line rest)

-- bytes with no LF have no line
pub lines_of-none : (bytes : List ℕ) → HasNoLf bytes → lines_of bytes ≡ []
lines_of-none bytes none = ap (λ parts. map without_cr (finished parts)) (slice_split-whole bytes none)

-- more bytes behind change no line that is there
pub BeginsWithLine-more : (bytes line rest more : List ℕ) → BeginsWithLine bytes line rest → BeginsWithLine (bytes ++ more) line (rest ++ more)
BeginsWithLine-more bytes line rest more begins =
    record { parts = ap (λ t. t ++ more) begins.parts ∙ append_assoc line (10 ∷ rest) more; one = begins.one }

-- the lines of unread bytes, of those that a step read, and of whatever comes behind
pub lines_of-taken : (unread read line rest more : List ℕ) → BeginsWithLine (unread ++ read) line rest → lines_of (unread ++ (read ++ more)) ≡ without_cr line ∷ lines_of (rest ++ more)
lines_of-taken unread read line rest more begins =
    rw (← append_assoc unread read more) (lines_of-first ((unread ++ read) ++ more) line (rest ++ more) (BeginsWithLine-more (unread ++ read) line rest more begins))
