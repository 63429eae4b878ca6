-- What reading more does, until an LF or an end comes.
use Rattle.std.specs.Prelude.{◌≡◌, ◌<◌, ◌≤◌, ◌+◌, ◌*◌, ℕ, List, [], ◌++◌, length, Option}
use Rattle.std.specs.Io.KnownBytes.{Consumes, IsAtEnd, Keeps}
use Rattle.rx_proto.specs.LineFeeds.{HasNoLf}
use Rattle.rx_lines.specs.Windows.{HasLfAt}
use Rattle.rx_lines.specs.declared.came.Came.{Came}
use Rattle.rx_lines.specs.declared.came.Came.TheVariants as came
use Rattle.rx_lines.specs.declared.input_end.InputEnd.{InputEnd}
use Rattle.rx_lines.specs.declared.input_end.InputEnd.TheVariants.{EndOfInput, ReadFault, TooManyReads}
use Rattle.rx_lines.specs.declared.reads.Found.{Found}
use Rattle.rx_lines.specs.declared.reads.Found.TheVariants.{Lf, LongLf, End}

-- an end is told where it is one: no byte is left, or no read
abbrev pub IsEnd : InputEnd → Option (List ℕ) → ℕ → Type 0
IsEnd EndOfInput new left = IsAtEnd new
IsEnd ReadFault new left = Unit {0}
IsEnd TooManyReads new left = left ≡ 0

-- how many bytes may still come: those of the window, and a block for each read that is left
abbrev pub ahead : ℕ → List ℕ → ℕ
ahead left window = left * 8192 + length window

-- some bytes came behind the window, or none yet, or an end
abbrev pub ReadsOn : Came → Option (List ℕ) → Option (List ℕ) → List ℕ → List ℕ → ℕ → ℕ → Type 0
ReadsOn came.Bytes old new window after left left_after =
    (read : List ℕ) × Consumes old new read × (after ≡ window ++ read) × (left_after < left) × (length read ≤ 8192)
ReadsOn came.Nothing old new window after left left_after = Keeps old new × (after ≡ window) × (left_after < left)
ReadsOn (came.End end) old new window after left left_after = Keeps old new × (after ≡ window) × (left_after ≤ left) × IsEnd end new left_after

-- reads gave some bytes behind the window, and then a front without an LF was let go
pub record Sheds (old new : Option (List ℕ)) (window after gone : List ℕ) : Type 0 where
  pub read : List ℕ
  pub told : Consumes old new read
  pub parts : window ++ read ≡ gone ++ after
  pub passed : HasNoLf gone

-- an LF stands in the window, behind a front of its line that was let go if it is long; or an end came before an LF
abbrev pub FindsNext : Found → Option (List ℕ) → Option (List ℕ) → List ℕ → List ℕ → ℕ → ℕ → Type 0
FindsNext (Lf len) old new window after left left_after =
    Sheds old new window after [] × HasLfAt after len × (ahead left_after after ≤ ahead left window) × (len < 8192)
FindsNext (LongLf len) old new window after left left_after =
    (gone : List ℕ) × Sheds old new window after gone × (1101 < length gone) × HasLfAt after len × (ahead left_after after ≤ ahead left window) × (len < 8192)
FindsNext (End end) old new window after left left_after =
    (gone : List ℕ) × Sheds old new window after gone × HasNoLf after × IsEnd end new left_after

-- an end of input is told where no byte is left
abbrev pub IsLeft : InputEnd → Option (List ℕ) → Type 0
IsLeft EndOfInput left = IsAtEnd left
IsLeft ReadFault left = Unit {0}
IsLeft TooManyReads left = Unit {0}
