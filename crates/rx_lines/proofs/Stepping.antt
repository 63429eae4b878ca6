-- Steps of reading lines.
use Rattle.std.proofs.Common.{◌≡◌, ℕ, ◌+◌, ◌<◌, ◌≤◌, false, List, [], ◌∷◌, ◌++◌, length, take, drop, Option, None, Some, MatchOption, refl, sym, ap, ◌∙◌, subst, arith, append_assoc, length-append, length-drop}
use Rattle.std.proofs.lemmas.Bool.{false≢true}
use Rattle.std.proofs.lemmas.List.{length-take-le}
use Rattle.std.specs.Bool.{IsTrue}
use Rattle.std.specs.Io.KnownBytes.{Keeps}
use Rattle.std.specs.Option.{is_some}
use Rattle.rx_proto.specs.LineFeeds.{HasLf, HasNoLf}
use Rattle.rx_lines.specs.Lines.{BeginsWithLine, TakesLine, TakesNoLine, without_cr}
use Rattle.rx_lines.specs.Reads.{Sheds, IsEnd, ahead}
use Rattle.rx_lines.specs.Windows.{HasLfAt, FindsLf}
use Rattle.rx_lines.specs.Steps.{Advances, TakesStep, GoesOn, IsStepAt, IsTold, LooksInHand, told, unread}
use Rattle.rx_lines.specs.declared.input_end.InputEnd.{InputEnd}
use Rattle.rx_lines.specs.declared.input_end.InputEnd.TheVariants.{EndOfInput, ReadFault, TooManyReads}
use Rattle.rx_lines.specs.declared.line_state.LineState.{LineState}
use Rattle.rx_lines.specs.declared.step.Step.{Step}
use Rattle.rx_lines.specs.declared.step.Step.TheVariants as steps
use Rattle.rx_proto.proofs.LineFeeds.{HasNoLf-append, HasNoLf-back}
use Rattle.rx_lines.proofs.Lfs.{HasNoLf-without_cr, length-without_cr}
use Rattle.rx_lines.proofs.Sheds.{Sheds-none}

-- an option that is no Some
pub none_from : {T : Type 0} (o : Option T) → ((x : T) → o ≡ Some x → ⊥) → o ≡ None
none_from None never = refl
none_from (Some x) never = absurd (never x refl)

-- the same by its test
pub not_some : {T : Type 0} (o : Option T) → is_some o ≡ false → o ≡ None
not_some None is = refl
not_some (Some x) is = cc

-- a long line, the front of which was let go
pub TakesLine-long : (old new : Option (List ℕ)) (window after gone : List ℕ) (len : ℕ) → Sheds old new window after gone → 1101 < length gone → HasLfAt after len
    → TakesLine old new window (drop (len + 1) after) (λ line. 1100 < length line)
TakesLine-long old new window after gone len shed long at =
    let line = gone ++ take len after in
    let parts : window ++ shed.read ≡ line ++ (10 ∷ drop (len + 1) after) =
    shed.parts ∙ ap (λ t. gone ++ t) at.line.parts ∙ sym (append_assoc gone (take len after) (10 ∷ drop (len + 1) after)) in
    let size : 1101 < length line = omega (arith, length-append gone (take len after)) in record {
      read = shed.read;
      line = line;
      told = shed.told;
      begins = record { parts = parts; one = HasNoLf-append gone (take len after) shed.passed at.line.one };
      said = omega (arith, length-without_cr line);
    }

-- the front of the window is taken with its LF
taken-front : (old new : Option (List ℕ)) (before after : LineState) (len : ℕ) (says : List ℕ → Type 0) → Sheds old new (unread before) after.window [] → HasLfAt after.window len
    → after.taken ≡ len + 1 → says (without_cr (take len after.window)) → TakesLine old new (unread before) (unread after) says
taken-front old new before after len says shed at taken said =
    let rest : BeginsWithLine after.window (take len after.window) (unread after) =
    subst (λ (n : ℕ). BeginsWithLine after.window (take len after.window) (drop n after.window)) (sym taken) at.line in record {
      read = shed.read;
      line = take len after.window;
      told = shed.told;
      begins = record { parts = shed.parts ∙ rest.parts; one = rest.one };
      said = said;
    }

-- a line of which nothing was let go
pub TakesStep-line : (step : Step) (old new : Option (List ℕ)) (before after : LineState) (len : ℕ) → Sheds old new (unread before) after.window [] → HasLfAt after.window len
    → IsStepAt step len after.window → after.taken ≡ len + 1 → after.end ≡ None → ahead after.reads after.window ≤ ahead before.reads (unread before)
    → TakesStep step old new before after
TakesStep-line step old new before after len shed at is taken none few =
    let goes_on : GoesOn before after = record { no_end = none; fewer = omega (arith, few, at.within, taken, length-drop after.taken after.window) } in
    elim step as (λ s. IsStepAt s len after.window → TakesStep s old new before after) [
      | steps.Line short ↦ λ said. (taken-front old new before after len (λ line. IsTold line short after.window) shed at taken said, goes_on)
      | steps.Long ↦ λ said. (taken-front old new before after len (λ line. 1100 < length line) shed at taken said, goes_on)
      | steps.EndOfInput ↦ λ said. absurd said
      | steps.ReadFault ↦ λ said. absurd said
      | steps.TooManyReads ↦ λ said. absurd said
    ] is

-- so it is told where no end was
pub Advances-line : (step : Step) (old new : Option (List ℕ)) (before after : LineState) → before.end ≡ None → TakesStep step old new before after → Advances step old new before after
Advances-line step old new before after none goes =
    subst (λ (o : Option InputEnd). MatchOption o (TakesStep step old new before after) (λ end. (step ≡ told end) × (after ≡ before) × Keeps old new)) (sym none) goes

-- no line before an end
pub TakesNoLine-shed : (old new : Option (List ℕ)) (window after gone : List ℕ) → Sheds old new window after gone → HasNoLf after → TakesNoLine old new window
TakesNoLine-shed old new window after gone shed none =
    record { read = shed.read; told = shed.told; none = subst HasNoLf (sym shed.parts) (HasNoLf-append gone after shed.passed none) }

-- the step that tells an end
pub TakesStep-end : (end : InputEnd) (old new : Option (List ℕ)) (before after : LineState) → TakesNoLine old new (unread before) → after.end ≡ Some end → IsEnd end new after.reads → TakesStep (told end) old new before after
TakesStep-end EndOfInput old new before after none is at = (none, is, at)
TakesStep-end ReadFault old new before after none is at = (none, is)
TakesStep-end TooManyReads old new before after none is at = (none, is, at)

-- an LF is among bytes that have one
not_none : (bytes : List ℕ) (len : ℕ) → HasLfAt bytes len → HasNoLf bytes → ⊥
not_none bytes len at none =
    (HasNoLf-back (take len bytes) (10 ∷ drop (len + 1) bytes) (subst HasNoLf at.line.parts none)).0 refl

-- a line in hand is told
pub LooksInHand-line : (step : Step) (before after : LineState) (len : ℕ) → before.end ≡ None → after.window ≡ unread before → HasLfAt after.window len
    → IsStepAt step len after.window → after.taken ≡ len + 1 → after.end ≡ before.end → after.reads ≡ before.reads → LooksInHand (Some step) before after
LooksInHand-line step before after len none same at is taken end reads = (
  none,
  subst HasLf same (not_none after.window len at),
  λ left.
      let shed : Sheds left left (unread before) after.window [] = subst (λ (w : List ℕ). Sheds left left w after.window []) same (Sheds-none left after.window) in
      TakesStep-line step left left before after len shed at is taken (end ∙ none) (omega (arith, reads, ap length same)),
)

-- no LF is unread exactly where none was found
pub finds_by : (found : Option ℕ) (bytes : List ℕ) → FindsLf found bytes → (IsTrue (is_some found) → HasNoLf bytes → ⊥) × ((HasNoLf bytes → ⊥) → IsTrue (is_some found))
finds_by None bytes none = (λ no. absurd (false≢true no), λ never. absurd (never none))
finds_by (Some len) bytes at = (λ _ none. not_none bytes len at none, λ _. refl)

-- a line that is told is no longer than a line may be and has no LF
pub told-is_line : (old new : Option (List ℕ)) (before after window : List ℕ) (len : ℕ) → TakesLine old new before after (λ line. IsTold line len window)
    → (length (take len window) ≤ 1100) × HasNoLf (take len window)
told-is_line old new before after window len takes = (
  omega (arith, length-take-le len window takes.said.within, takes.said.short),
  subst HasNoLf (sym takes.said.bytes) (HasNoLf-without_cr takes.line takes.begins.one),
)
