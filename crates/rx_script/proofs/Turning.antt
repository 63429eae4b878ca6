-- One turn of a script: a line that was read is told.
use Rattle.std.proofs.Common.{◌≡◌, ℕ, ◌<◌, Bool, List, ◌++◌, length, Option, None, Some, MatchOption, Result, Err, inl, sym, ap, subst, ◌∙◌}
use Rattle.std.proofs.KnownBytes.{Appends-trans}
use Rattle.std.specs.Io.KnownBytes.{Appends}
use Rattle.rx_lines.specs.declared.input_end.InputEnd.{InputEnd}
use Rattle.rx_proto.specs.declared.line_error.BadLine.{BadLine}
use Rattle.rx_proto.specs.declared.line_error.BadLine.TheVariants.{Long}
use Rattle.rx_lines.specs.declared.line_state.LineState.{LineState}
use Rattle.rx_script.specs.declared.script.Script.{Script}
use Rattle.rx_proto.specs.declared.script_line.ScriptLine.{ScriptLine}
use Rattle.rx_session.specs.declared.session_end.SessionEnd.{SessionEnd}
use Rattle.rx_session.specs.declared.session_end.SessionEnd.TheVariants as ends
use Rattle.rx_lines.specs.declared.step.Step.{Step}
use Rattle.rx_lines.specs.declared.step.Step.TheVariants as steps
use Rattle.rx_script.specs.declared.told.Told.{Told}
use Rattle.rx_script.specs.declared.told.Told.TheVariants as told
use Rattle.rx_proto.specs.Bytes.{AppendsPrefix}
use Rattle.rx_lines.specs.Bytes.{Holds}
use Rattle.rx_lines.specs.Lines.{TakesLine, without_cr}
use Rattle.rx_proto.specs.Reading.{script_read}
use Rattle.rx_proto.proofs.Exact.{script_exact}
use Rattle.rx_lines.specs.Steps.{unread, GoesOn, TakesStep, Advances}
use Rattle.rx_script.specs.Tellings.{IsIn, IsInHand, Quits, TellsOn, Turns, is_last}
use Rattle.rx_script.specs.Transcripts.{State, line_written, after_line, ends_script}
use Rattle.rx_lines.proofs.Stepping.{told-is_line}
use Rattle.rx_proto.proofs.Writes.{Prefix-behind}

-- what was held and then written is what was put
appended : (old mid new : Option (List ℕ)) (held then bytes : List ℕ) → Holds held then old mid bytes → Appends mid new then → Appends old new (held ++ bytes)
appended old mid new held then bytes holds all =
    subst (λ (xs : List ℕ). Appends old new xs) holds.parts (Appends-trans old mid new holds.written then holds.told all)

-- a script that said so ends
pub quit_tells : (end : SessionEnd) (before mid after : Script) (old now new : Option (List ℕ)) (line : Result ScriptLine BadLine) (t : Told)
    → t ≡ told.Quit → Quits end now new mid.outbox
    → ((state : State) → IsIn before state → (missed : Bool) × Holds before.outbox mid.outbox old now (line_written state line missed)
    × ((is_last t ≡ ends_script line) × IsIn mid (after_line state line missed)))
    → TellsOn (Some end) before after old new line
quit_tells ends.Quit before mid after old now new line t is all tells = λ state is_in.
    let one = tells state is_in in (one.0, appended old now new before.outbox mid.outbox (line_written state line one.0) one.1 all, sym one.2.0 ∙ ap is_last is)
quit_tells ends.EndOfInput before mid after old now new line t is all tells = absurd all
quit_tells ends.HandedOver before mid after old now new line t is all tells = absurd all
quit_tells ends.ReadFault before mid after old now new line t is all tells = absurd all
quit_tells ends.WriteFault before mid after old now new line t is all tells = λ state is_in.
    let one = tells state is_in in
    (one.0, subst (λ (xs : List ℕ). AppendsPrefix old new xs) one.1.parts (Prefix-behind old now new one.1.written mid.outbox one.1.told all))
quit_tells ends.TooManyReads before mid after old now new line t is all tells = absurd all

none_match : (o : Option InputEnd) (P : Type 0) (Q : InputEnd → Type 0) → o ≡ None → MatchOption o P Q → P
none_match None P Q e m = m
none_match (Some x) P Q e m = cc

-- a step that begins with no end
pub goes_by : (step : Step) (old new : Option (List ℕ)) (before after : LineState) → before.end ≡ None → Advances step old new before after → TakesStep step old new before after
goes_by step old new before after none advances = none_match before.end _ _ none advances

-- the line that a step took may be told
pub in_hand : (step : Step) (old new : Option (List ℕ)) (before after : LineState) → TakesStep step old new before after → IsInHand step after
in_hand (steps.Line len) old new before after goes =
    let line = told-is_line _ _ _ _ after.window len goes.0 in (goes.0.said.within, line.0, line.1)
in_hand steps.Long old new before after goes = tt
in_hand steps.EndOfInput old new before after goes = tt
in_hand steps.ReadFault old new before after goes = tt
in_hand steps.TooManyReads old new before after goes = tt

-- a line of more than 1,100 bytes is refused
pub script_read-long : (line : List ℕ) → 1100 < length line → script_read line ≡ Err Long
script_read-long line long = (script_exact.long line).1 (inl long)

taken : (read_old read_new : Option (List ℕ)) (before after : List ℕ) (says then : List ℕ → Type 0) → ((line : List ℕ) → says line → then line)
    → TakesLine read_old read_new before after says → TakesLine read_old read_new before after then
taken read_old read_new before after says then so takes =
    record { read = takes.read; line = takes.line; told = takes.told; begins = takes.begins; said = so (without_cr takes.line) takes.said }

-- a line that was taken is told
pub turned : (result : Option SessionEnd) (before after : Script) (old new read_old read_new : Option (List ℕ)) (lines lines_after : LineState)
    (reading : Result ScriptLine BadLine) (says : List ℕ → Type 0)
    → ((line : List ℕ) → says line → script_read line ≡ reading) → TakesLine read_old read_new (unread lines) (unread lines_after) says → GoesOn lines lines_after
    → TellsOn result before after old new reading → Turns result before after old new read_old read_new lines lines_after
turned None before after old new read_old read_new lines lines_after reading says so takes goes_on tells = (
  taken read_old read_new (unread lines) (unread lines_after) says (λ line. TellsOn None before after old new (script_read line))
      (λ line said. subst (λ (r : Result ScriptLine BadLine). TellsOn None before after old new r) (sym (so line said)) tells) takes,
  goes_on,
)
turned (Some ends.Quit) before after old new read_old read_new lines lines_after reading says so takes goes_on tells =
    taken read_old read_new (unread lines) (unread lines_after) says (λ line. TellsOn (Some ends.Quit) before after old new (script_read line))
    (λ line said. subst (λ (r : Result ScriptLine BadLine). TellsOn (Some ends.Quit) before after old new r) (sym (so line said)) tells) takes
turned (Some ends.EndOfInput) before after old new read_old read_new lines lines_after reading says so takes goes_on tells = absurd tells
turned (Some ends.HandedOver) before after old new read_old read_new lines lines_after reading says so takes goes_on tells = absurd tells
turned (Some ends.ReadFault) before after old new read_old read_new lines lines_after reading says so takes goes_on tells = absurd tells
turned (Some ends.WriteFault) before after old new read_old read_new lines lines_after reading says so takes goes_on tells =
    taken read_old read_new (unread lines) (unread lines_after) says (λ line. TellsOn (Some ends.WriteFault) before after old new (script_read line))
    (λ line said. subst (λ (r : Result ScriptLine BadLine). TellsOn (Some ends.WriteFault) before after old new r) (sym (so line said)) tells) takes
turned (Some ends.TooManyReads) before after old new read_old read_new lines lines_after reading says so takes goes_on tells = absurd tells
