-- What one step of reading lines does.
use Rattle.std.specs.Prelude.{◌≡◌, ◌<◌, ◌≤◌, ℕ, List, length, take, drop, Option, None, Some, MatchOption}
use Rattle.std.specs.Io.KnownBytes.{IsAtEnd, Keeps}
use Rattle.rx_proto.specs.LineFeeds.{HasLf, HasNoLf}
use Rattle.rx_lines.specs.Lines.{TakesLine, TakesNoLine, without_cr}
use Rattle.rx_lines.specs.Reads.{ahead}
use Rattle.rx_lines.specs.declared.input_end.InputEnd.{InputEnd}
use Rattle.rx_lines.specs.declared.input_end.InputEnd.TheVariants as ends
use Rattle.rx_lines.specs.declared.line_state.LineState.{LineState}
use Rattle.rx_lines.specs.declared.step.Step.{Step}
use Rattle.rx_lines.specs.declared.step.Step.TheVariants.{Line, Long, EndOfInput, ReadFault, TooManyReads}

-- the bytes read of which no line was told yet
abbrev pub unread : LineState → List ℕ
unread state = drop state.taken state.window

-- the step that tells an end
abbrev pub told : InputEnd → Step
told ends.EndOfInput = EndOfInput
told ends.ReadFault = ReadFault
told ends.TooManyReads = TooManyReads

-- a step that told a line leaves fewer bytes that may come, and no end
pub record GoesOn (before after : LineState) : Type 0 where
  pub no_end : after.end ≡ None
  pub fewer : ahead after.reads (unread after) < ahead before.reads (unread before)

-- a line of so many bytes stands at the front of the window
pub record IsTold (line : List ℕ) (len : ℕ) (window : List ℕ) : Type 0 where
  pub bytes : take len window ≡ line
  pub within : len ≤ length window
  pub short : len ≤ 1100

-- the step that tells the line of so many bytes at the front of the window
abbrev pub IsStepAt : Step → ℕ → List ℕ → Type 0
IsStepAt (Line len) before_lf window = IsTold (without_cr (take before_lf window)) len window
IsStepAt Long before_lf window = 1100 < length (without_cr (take before_lf window))
IsStepAt EndOfInput before_lf window = ⊥
IsStepAt ReadFault before_lf window = ⊥
IsStepAt TooManyReads before_lf window = ⊥

-- what a step does that begins with no end: it takes the next line, or reads to an end and finds none
abbrev pub TakesStep : Step → Option (List ℕ) → Option (List ℕ) → LineState → LineState → Type 0
TakesStep (Line len) old new before after =
    TakesLine old new (unread before) (unread after) (λ line. IsTold line len after.window) × GoesOn before after
TakesStep Long old new before after = TakesLine old new (unread before) (unread after) (λ line. 1100 < length line) × GoesOn before after
TakesStep EndOfInput old new before after = TakesNoLine old new (unread before) × (after.end ≡ Some ends.EndOfInput) × IsAtEnd new
TakesStep ReadFault old new before after = TakesNoLine old new (unread before) × (after.end ≡ Some ends.ReadFault)
TakesStep TooManyReads old new before after = TakesNoLine old new (unread before) × (after.end ≡ Some ends.TooManyReads) × (after.reads ≡ 0)

-- what a step does: after an end it tells that end again, and changes and reads nothing
abbrev pub Advances : Step → Option (List ℕ) → Option (List ℕ) → LineState → LineState → Type 0
Advances step old new before after = MatchOption before.end (TakesStep step old new before after) (λ end. (step ≡ told end) × (after ≡ before) × Keeps old new)

-- what looking for a line in hand does: where there is an LF, and no end was told, it takes the next line, whatever the reader
-- has; else it leaves what is unread
abbrev pub LooksInHand : Option Step → LineState → LineState → Type 0
LooksInHand (Some step) before after = (before.end ≡ None) × HasLf (unread before) × ((left : Option (List ℕ)) → TakesStep step left left before after)
LooksInHand None before after = (before.end ≡ None → HasNoLf (unread before)) × (unread after ≡ unread before)
