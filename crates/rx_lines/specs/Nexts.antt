-- What a reader of lines tells.
use Rattle.std.specs.Prelude.{◌≡◌, ◌<◌, ◌≤◌, ℕ, List, length, Option, Some, MatchOption}
use Rattle.std.specs.Io.KnownBytes.{IsAtEnd, Keeps}
use Rattle.rx_lines.specs.Lines.{TakesLine, TakesNoLine}
use Rattle.rx_lines.specs.Steps.{unread, GoesOn}
use Rattle.rx_lines.specs.declared.input_end.InputEnd.{InputEnd}
use Rattle.rx_lines.specs.declared.input_end.InputEnd.TheVariants as ends
use Rattle.rx_lines.specs.declared.line_state.LineState.{LineState}
use Rattle.rx_lines.specs.declared.next.Next.{Next}
use Rattle.rx_lines.specs.declared.next.Next.TheVariants.{Line, Long, EndOfInput, ReadFault, TooManyReads}

-- what tells an end
abbrev pub ended : InputEnd → Next
ended ends.EndOfInput = EndOfInput
ended ends.ReadFault = ReadFault
ended ends.TooManyReads = TooManyReads

-- a line that is told
pub record IsLine (line said : List ℕ) : Type 0 where
  pub bytes : said ≡ line
  pub short : length line ≤ 1100

-- what is told before an end was: the next line, or that it is too long; or an end, before which no line was
abbrev pub Says : Next → Option (List ℕ) → Option (List ℕ) → LineState → LineState → Type 0
Says (Line said) old new before after = TakesLine old new (unread before) (unread after) (λ line. IsLine line said.now) × GoesOn before after
Says Long old new before after = TakesLine old new (unread before) (unread after) (λ line. 1100 < length line) × GoesOn before after
Says EndOfInput old new before after = TakesNoLine old new (unread before) × (after.end ≡ Some ends.EndOfInput) × IsAtEnd new
Says ReadFault old new before after = TakesNoLine old new (unread before) × (after.end ≡ Some ends.ReadFault)
Says TooManyReads old new before after = TakesNoLine old new (unread before) × (after.end ≡ Some ends.TooManyReads) × (after.reads ≡ 0)

-- THE EXACT LINE READING: the lines of the bytes that are read are told one after another, each once; after an end that end
-- is told again, and nothing is read or changed
abbrev pub Nexts : Next → Option (List ℕ) → Option (List ℕ) → LineState → LineState → Type 0
Nexts next old new before after = MatchOption before.end (Says next old new before after) (λ end. (next ≡ ended end) × (after ≡ before) × Keeps old new)
