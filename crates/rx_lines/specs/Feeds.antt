-- What a feed of lines tells, whose reads wait for nobody. What of its bytes was read and not told is what it has unread, behind
-- the front of a long line that it may have let go.
use Rattle.std.specs.Prelude.{◌≡◌, ◌<◌, ◌≤◌, ◌⊎◌, ℕ, Bool, true, false, List, [], ◌++◌, length, take, Option, None, Some}
use Rattle.std.specs.Io.KnownBytes.{Consumes, Keeps}
use Rattle.rx_proto.specs.LineFeeds.{HasLf, HasNoLf}
use Rattle.rx_lines.specs.Lines.{BeginsWithLine, without_cr}
use Rattle.rx_lines.specs.Reads.{IsLeft}
use Rattle.rx_lines.specs.Steps.{IsTold, unread}
use Rattle.rx_lines.specs.declared.came.Came.{Came}
use Rattle.rx_lines.specs.declared.came.Came.TheVariants.{Bytes, Nothing, End}
use Rattle.rx_lines.specs.declared.input_end.InputEnd.{InputEnd}
use Rattle.rx_lines.specs.declared.input_end.InputEnd.TheVariants as inputs
use Rattle.rx_lines.specs.declared.line_state.LineState.{LineState}
use Rattle.rx_lines.specs.declared.step.Step.{Step}
use Rattle.rx_lines.specs.declared.step.Step.TheVariants.{Line, Long, EndOfInput, ReadFault, TooManyReads}

-- what was let go: the front of a long line, or nothing
abbrev pub IsGone : Bool → List ℕ → Type 0
IsGone true gone = 1101 < length gone
IsGone false gone = gone ≡ []

-- these bytes were read and no line of them was told: what is unread, behind the front of a long line that was let go
pub record IsRest (skips : Bool) (unread rest : List ℕ) : Type 0 where
  pub gone : List ℕ
  pub kind : IsGone skips gone
  pub passed : HasNoLf gone
  pub parts : rest ≡ gone ++ unread

-- what one read made of the bytes that were read and not told
abbrev pub Comes : Came → Option (List ℕ) → Option (List ℕ) → List ℕ → Bool → List ℕ → Type 0
Comes Bytes old new rest skips unread = (read : List ℕ) × Consumes old new read × IsRest skips unread (rest ++ read)
Comes Nothing old new rest skips unread = Keeps old new × IsRest skips unread rest
Comes (End end) old new rest skips unread = Keeps old new × HasNoLf rest × IsLeft end new

-- reads are refused only where none is left
abbrev pub HasNoReads : InputEnd → ℕ → Type 0
HasNoReads inputs.EndOfInput reads = Unit {0}
HasNoReads inputs.ReadFault reads = Unit {0}
HasNoReads inputs.TooManyReads reads = reads ≡ 0

-- a read was made; or none was, since a line is in hand; where no byte came no line is in hand either
abbrev pub FillsOn : Came → LineState → LineState → Type 0
FillsOn Bytes before after = (after.reads < before.reads) ⊎ ((after.reads ≡ before.reads) × (unread after ≡ unread before) × HasLf (unread after))
FillsOn Nothing before after = (after.reads < before.reads) × HasNoLf (unread after)
FillsOn (End end) before after = (after.reads ≤ before.reads) × HasNoReads end after.reads

-- these bytes begin with a line of which something is said, and the others are what is left
pub record TellsLine (rest : List ℕ) (skips : Bool) (unread : List ℕ) (says : List ℕ → Type 0) : Type 0 where
  pub line : List ℕ
  pub left : List ℕ
  pub begins : BeginsWithLine rest line left
  pub said : says (without_cr line)
  pub is_rest : IsRest skips unread left

-- what is told of them without a read: their first line, or that no line of them is whole
abbrev pub Tells : Option Step → List ℕ → List ℕ → Bool → List ℕ → Type 0
Tells (Some (Line len)) rest window skips unread = TellsLine rest skips unread (λ line. IsTold line len window)
Tells (Some Long) rest window skips unread = TellsLine rest skips unread (λ line. 1100 < length line)
Tells (Some EndOfInput) rest window skips unread = ⊥
Tells (Some ReadFault) rest window skips unread = ⊥
Tells (Some TooManyReads) rest window skips unread = ⊥
Tells None rest window skips unread = HasNoLf rest × IsRest skips unread rest

-- the bytes of a line that is told stand in the window, and have no LF
abbrev pub IsWhole : Option Step → List ℕ → Type 0
IsWhole (Some (Line len)) window = (len ≤ length window) × (length (take len window) ≤ 1100) × HasNoLf (take len window)
IsWhole (Some Long) window = Unit {0}
IsWhole (Some EndOfInput) window = ⊥
IsWhole (Some ReadFault) window = ⊥
IsWhole (Some TooManyReads) window = ⊥
IsWhole None window = Unit {0}

-- a step tells this line
abbrev pub IsLine : Step → List ℕ → List ℕ → Type 0
IsLine (Line len) line window = IsTold line len window
IsLine Long line window = 1100 < length line
IsLine EndOfInput line window = ⊥
IsLine ReadFault line window = ⊥
IsLine TooManyReads line window = ⊥
