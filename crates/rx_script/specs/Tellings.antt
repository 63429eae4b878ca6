-- What telling a line does to the run of a script.
use Rattle.std.specs.Prelude.{◌≡◌, ◌≤◌, ℕ, Bool, true, false, List, ◌++◌, Option, None, Some, Result, Err, MatchResult, if◌then◌else◌, length, take}
use Rattle.std.specs.Io.KnownBytes.{Appends, IsAtEnd}
use Rattle.std.specs.Borrow.{Bor}
use Rattle.rx_script.specs.declared.asked.Asked.{Asked}
use Rattle.rx_proto.specs.declared.response.Response.TheVariants.{Refused}
use Rattle.rx_proto.specs.declared.word.Word.TheVariants as words
use Rattle.rx_script.specs.declared.script.Script.{Script}
use Rattle.rx_proto.specs.declared.script_line.ScriptLine.{ScriptLine}
use Rattle.rx_proto.specs.declared.line_error.BadLine.{BadLine}
use Rattle.rx_proto.specs.declared.line_error.BadLine.TheVariants.{Long}
use Rattle.rx_lines.specs.declared.line_state.LineState.{LineState}
use Rattle.rx_session.specs.declared.session_end.SessionEnd.{SessionEnd}
use Rattle.rx_session.specs.declared.session_end.SessionEnd.TheVariants as ends
use Rattle.rx_lines.specs.declared.step.Step.{Step}
use Rattle.rx_lines.specs.declared.step.Step.TheVariants as steps
use Rattle.rx_script.specs.declared.told.Told.{Told}
use Rattle.rx_script.specs.declared.told.Told.TheVariants as told
use Rattle.rx_proto.specs.declared.writer.WriteFault.{WriteFault}
use Rattle.rx_proto.specs.Bytes.{AppendsPrefix}
use Rattle.rx_lines.specs.Bytes.{Holds, Puts}
use Rattle.rx_lines.specs.Lines.{TakesLine, TakesNoLine}
use Rattle.rx_proto.specs.LineFeeds.{HasNoLf}
use Rattle.rx_proto.specs.Reading.{script_read}
use Rattle.rx_script.specs.Scripts.{StandForSubjects}
use Rattle.rx_lines.specs.Steps.{unread, GoesOn}
use Rattle.rx_proto.specs.Printing.{reply_line}
use Rattle.rx_script.specs.Transcripts.{State, wants_memory, is_quit, asked_written, after_asked, line_written, after_line, ends_script}

-- the run of a script is in a state: its topics stand for the subjects, and the moment and the version are the same
pub record IsIn (script : Script) (state : State) : Type 0 where
  pub subjects : StandForSubjects script.topics.items state.subjects
  pub moment : script.moment ≡ state.moment
  pub version : script.version ≡ state.version

-- whether the script goes on
abbrev pub is_last : Told → Bool
is_last told.More = false
is_last told.Quit = true

-- what telling a line did: what is written for it was put, and then the run is in the state after it; the line may have
-- met want of memory
abbrev pub Tells : Result Told WriteFault → Script → Script → Option (List ℕ) → Option (List ℕ) → Result ScriptLine BadLine → Type 0
Tells result before after old new line =
    (state : State) → IsIn before state
    → (missed : Bool) × Puts result before.outbox after.outbox old new (line_written state line missed)
    × MatchResult result (λ told. (is_last told ≡ ends_script line) × IsIn after (after_line state line missed)) (λ _. Unit {0})

-- what carrying out did: the answer was put, and the run is in the state after it; or an event that would have been
-- accepted met want of memory
abbrev pub CarriesOut : Result Told WriteFault → Script → Script → Option (List ℕ) → Option (List ℕ) → Asked → Type 0
CarriesOut result before after old new asked =
    (state : State) → IsIn before state
    → (missed : Bool) × (missed ≡ true → wants_memory state.subjects asked ≡ true)
    × Puts result before.outbox after.outbox old new (if missed then reply_line (Refused words.Memory) else asked_written state asked)
    × MatchResult result (λ told. (is_last told ≡ is_quit asked) × IsIn after (if missed then state else after_asked state asked)) (λ _. Unit {0})

-- what is read of a line that is told, or of one that is too long
abbrev pub reading_of : Option (Bor (List ℕ)) → Result ScriptLine BadLine
reading_of (Some line) = script_read line.now
reading_of None = Err Long

-- a line that is told has no LF and is no longer than a line may be
abbrev pub MayBeTold : Option (Bor (List ℕ)) → Type 0
MayBeTold (Some line) = (length line.now ≤ 1100) × HasNoLf line.now
MayBeTold None = Unit {0}

-- a line that a step took stands at the front of the window, and may be told
abbrev pub IsInHand : Step → LineState → Type 0
IsInHand (steps.Line len) lines = (len ≤ length lines.window) × (length (take len lines.window) ≤ 1100) × HasNoLf (take len lines.window)
IsInHand steps.Long lines = Unit {0}
IsInHand steps.EndOfInput lines = Unit {0}
IsInHand steps.ReadFault lines = Unit {0}
IsInHand steps.TooManyReads lines = Unit {0}

-- ending a script that said so writes all that is held, or meets a fault
abbrev pub Quits : SessionEnd → Option (List ℕ) → Option (List ℕ) → List ℕ → Type 0
Quits ends.Quit old new held = Appends old new held
Quits ends.EndOfInput old new held = ⊥
Quits ends.HandedOver old new held = ⊥
Quits ends.ReadFault old new held = ⊥
Quits ends.WriteFault old new held = AppendsPrefix old new held
Quits ends.TooManyReads old new held = ⊥

-- what telling a line did, and how the script ended, if it did
abbrev pub TellsOn : Option SessionEnd → Script → Script → Option (List ℕ) → Option (List ℕ) → Result ScriptLine BadLine → Type 0
TellsOn None before after old new line =
    (state : State) → IsIn before state
    → (missed : Bool) × Holds before.outbox after.outbox old new (line_written state line missed) × (ends_script line ≡ false)
    × IsIn after (after_line state line missed)
TellsOn (Some ends.Quit) before after old new line =
    (state : State) → IsIn before state
    → (missed : Bool) × Appends old new (before.outbox ++ line_written state line missed) × (ends_script line ≡ true)
TellsOn (Some ends.EndOfInput) before after old new line = ⊥
TellsOn (Some ends.HandedOver) before after old new line = ⊥
TellsOn (Some ends.ReadFault) before after old new line = ⊥
TellsOn (Some ends.WriteFault) before after old new line =
    (state : State) → IsIn before state → (missed : Bool) × AppendsPrefix old new (before.outbox ++ line_written state line missed)
TellsOn (Some ends.TooManyReads) before after old new line = ⊥

-- what one turn did: it took the next line and told it, or it found none and an end
abbrev pub Turns : Option SessionEnd → Script → Script → Option (List ℕ) → Option (List ℕ) → Option (List ℕ) → Option (List ℕ) → LineState → LineState → Type 0
Turns None before after old new read_old read_new lines lines_after =
    TakesLine read_old read_new (unread lines) (unread lines_after) (λ line. TellsOn None before after old new (script_read line)) × GoesOn lines lines_after
Turns (Some ends.Quit) before after old new read_old read_new lines lines_after =
    TakesLine read_old read_new (unread lines) (unread lines_after) (λ line. TellsOn (Some ends.Quit) before after old new (script_read line))
Turns (Some ends.EndOfInput) before after old new read_old read_new lines lines_after =
    TakesNoLine read_old read_new (unread lines) × IsAtEnd read_new × (new ≡ old)
Turns (Some ends.HandedOver) before after old new read_old read_new lines lines_after = ⊥
Turns (Some ends.ReadFault) before after old new read_old read_new lines lines_after =
    TakesNoLine read_old read_new (unread lines) × (new ≡ old)
Turns (Some ends.WriteFault) before after old new read_old read_new lines lines_after =
    TakesLine read_old read_new (unread lines) (unread lines_after) (λ line. TellsOn (Some ends.WriteFault) before after old new (script_read line))
Turns (Some ends.TooManyReads) before after old new read_old read_new lines lines_after =
    TakesNoLine read_old read_new (unread lines) × (new ≡ old)
