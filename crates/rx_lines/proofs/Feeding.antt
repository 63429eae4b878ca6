-- What a feed of lines has unread, call by call.
use Rattle.std.proofs.Common.{◌≡◌, ◌<◌, ℕ, Bool, true, false, List, [], ◌∷◌, ◌++◌, length, Option, None, Some, refl, sym, ap, subst, ◌∙◌, append_assoc, append-nil, arith, length-append}
use Rattle.std.specs.Io.KnownBytes.{Consumes}
use Rattle.rx_proto.specs.LineFeeds.{HasNoLf}
use Rattle.rx_proto.proofs.LineFeeds.{HasNoLf-append, HasNoLf-front}
use Rattle.rx_lines.specs.Feeds.{IsRest, Comes, Tells, IsWhole}
use Rattle.rx_lines.specs.Lines.{BeginsWithLine, TakesLine, without_cr}
use Rattle.rx_lines.specs.Reads.{ReadsOn, IsEnd}
use Rattle.rx_lines.specs.Reads.{IsLeft}
use Rattle.rx_lines.specs.Steps.{unread, TakesStep, IsTold, LooksInHand}
use Rattle.rx_lines.specs.declared.came.Came.{Came}
use Rattle.rx_lines.specs.declared.came.Came.TheVariants.{Bytes, Nothing, End}
use Rattle.rx_lines.specs.declared.input_end.InputEnd.{InputEnd}
use Rattle.rx_lines.specs.declared.input_end.InputEnd.TheVariants as inputs
use Rattle.rx_lines.specs.declared.line_state.LineState.{LineState}
use Rattle.rx_lines.specs.declared.step.Step.{Step}
use Rattle.rx_lines.specs.declared.step.Step.TheVariants as steps
use Rattle.rx_lines.proofs.Lfs.{length-without_cr}
use Rattle.rx_lines.proofs.Stepping.{told-is_line}
use Rattle.std.proofs.KnownBytes.{Consumes-nil}

-- what is unread, where nothing was let go
unread_is : (window rest : List ℕ) → IsRest false window rest → rest ≡ window
unread_is window rest is = is.parts ∙ ap (λ t. t ++ window) is.kind

-- no read gave anything of which nothing was left
none_read : (read : List ℕ) → Consumes (Some []) (Some []) read → read ≡ []
none_read [] told = refl
none_read (x ∷ xs) told = cc

-- a line that was taken without a read
begins_by : (before after : List ℕ) (says : List ℕ → Type 0) → TakesLine (Some []) (Some []) before after says
    → (line : List ℕ) × BeginsWithLine before line after × says (without_cr line)
begins_by before after says takes = (
  takes.line,
  subst (λ (bytes : List ℕ). BeginsWithLine bytes takes.line after) (ap (λ r. before ++ r) (none_read takes.read takes.told) ∙ append-nil before) takes.begins,
  takes.said,
)

-- nothing was let go of what is unread
pub IsRest-plain : (window : List ℕ) → IsRest false window window
IsRest-plain window = record { gone = []; kind = refl; passed = tt; parts = refl }

-- a line in hand is told
pub tells_line : (step : Step) (before after : LineState) (rest : List ℕ) → LooksInHand (Some step) before after → IsRest false (unread before) rest
    → Tells (Some step) rest after.window false (unread after)
tells_line step before after rest knows is =
    elim step as (λ s. TakesStep s (Some []) (Some []) before after → Tells (Some s) rest after.window false (unread after)) [
      | steps.Line len ↦ λ g.
          let b = begins_by (unread before) (unread after) (λ line. IsTold line len after.window) g.0 in
          record { line = b.0; left = unread after; begins = subst (λ (bytes : List ℕ). BeginsWithLine bytes b.0 (unread after)) (sym (unread_is (unread before) rest is)) b.1; said = b.2; is_rest = IsRest-plain (unread after) }
      | steps.Long ↦ λ g.
          let b = begins_by (unread before) (unread after) (λ line. 1100 < length line) g.0 in
          record { line = b.0; left = unread after; begins = subst (λ (bytes : List ℕ). BeginsWithLine bytes b.0 (unread after)) (sym (unread_is (unread before) rest is)) b.1; said = b.2; is_rest = IsRest-plain (unread after) }
      | steps.EndOfInput ↦ λ g. absurd (knows.1 (HasNoLf-front (unread before) g.0.read g.0.none))
      | steps.ReadFault ↦ λ g. absurd (knows.1 (HasNoLf-front (unread before) g.0.read g.0.none))
      | steps.TooManyReads ↦ λ g. absurd (knows.1 (HasNoLf-front (unread before) g.0.read g.0.none))
    ] (knows.2 (Some []))

-- a line behind its front that was let go
behind_gone : (gone before line after : List ℕ) → HasNoLf gone → BeginsWithLine before line after → BeginsWithLine (gone ++ before) (gone ++ line) after
behind_gone gone before line after passed begins = record {
  parts = ap (λ t. gone ++ t) begins.parts ∙ sym (append_assoc gone line (10 ∷ after));
  one = HasNoLf-append gone line passed begins.one;
}

-- it is too long
pub tells_long : (step : Step) (before after : LineState) (rest : List ℕ) → LooksInHand (Some step) before after → IsRest true (unread before) rest
    → Tells (Some steps.Long) rest after.window false (unread after)
tells_long step before after rest knows is =
    let make : (line : List ℕ) → BeginsWithLine (unread before) line (unread after) → Tells (Some steps.Long) rest after.window false (unread after) =
    λ line begins. record {
      line = is.gone ++ line;
      left = unread after;
      begins = subst (λ (bytes : List ℕ). BeginsWithLine bytes (is.gone ++ line) (unread after)) (sym is.parts) (behind_gone is.gone (unread before) line (unread after) is.passed begins);
      said = omega (arith, length-without_cr (is.gone ++ line), length-append is.gone line, is.kind);
      is_rest = IsRest-plain (unread after);
    } in
    elim step as (λ s. TakesStep s (Some []) (Some []) before after → Tells (Some steps.Long) rest after.window false (unread after)) [
      | steps.Line len ↦ λ g. let b = begins_by (unread before) (unread after) (λ line. IsTold line len after.window) g.0 in make b.0 b.1
      | steps.Long ↦ λ g. let b = begins_by (unread before) (unread after) (λ line. 1100 < length line) g.0 in make b.0 b.1
      | steps.EndOfInput ↦ λ g. absurd (knows.1 (HasNoLf-front (unread before) g.0.read g.0.none))
      | steps.ReadFault ↦ λ g. absurd (knows.1 (HasNoLf-front (unread before) g.0.read g.0.none))
      | steps.TooManyReads ↦ λ g. absurd (knows.1 (HasNoLf-front (unread before) g.0.read g.0.none))
    ] (knows.2 (Some []))

-- no line is in hand
pub tells_none : (skips : Bool) (before after : LineState) (rest : List ℕ) → before.end ≡ None → LooksInHand None before after → IsRest skips (unread before) rest
    → Tells None rest after.window skips (unread after)
tells_none skips before after rest still_open knows is = (
  subst HasNoLf (sym is.parts) (HasNoLf-append is.gone (unread before) is.passed (knows.0 still_open)),
  record { gone = is.gone; kind = is.kind; passed = is.passed; parts = is.parts ∙ ap (λ t. is.gone ++ t) (sym knows.1) },
)

-- an end is told where no byte is left
left_by : (end : InputEnd) (new : Option (List ℕ)) (reads : ℕ) → IsEnd end new reads → IsLeft end new
left_by inputs.EndOfInput new reads at = at
left_by inputs.ReadFault new reads at = tt
left_by inputs.TooManyReads new reads at = tt

-- one read came to this
pub comes_by : (came : Came) (old new : Option (List ℕ)) (skips : Bool) (window after rest : List ℕ) (reads reads_after : ℕ) → HasNoLf window → IsRest skips window rest
    → ReadsOn came old new window after reads reads_after → Comes came old new rest skips after
comes_by Bytes old new skips window after rest reads reads_after none is r = (
  r.0,
  r.1,
  record {
    gone = is.gone;
    kind = is.kind;
    passed = is.passed;
    parts = ap (λ t. t ++ r.0) is.parts ∙ append_assoc is.gone window r.0 ∙ ap (λ t. is.gone ++ t) (sym r.2);
  },
)
comes_by Nothing old new skips window after rest reads reads_after none is r =
    (r.0, record { gone = is.gone; kind = is.kind; passed = is.passed; parts = is.parts ∙ ap (λ t. is.gone ++ t) (sym r.1) })
comes_by (End end) old new skips window after rest reads reads_after none is r =
    (r.0, subst HasNoLf (sym is.parts) (HasNoLf-append is.gone window is.passed none), left_by end new reads_after r.3)

-- the front of a long line was let go
pub IsRest-skipped : (skips : Bool) (window rest : List ℕ) → HasNoLf window → 1101 < length window → IsRest skips window rest → IsRest true [] rest
IsRest-skipped skips window rest none long is = record {
  gone = is.gone ++ window;
  kind = omega (arith, long, length-append is.gone window);
  passed = HasNoLf-append is.gone window is.passed none;
  parts = is.parts ∙ sym (append-nil (is.gone ++ window));
}

-- the bytes of a line that is told stand in the window
pub is_whole : (step : Step) (before after : LineState) → LooksInHand (Some step) before after → IsWhole (Some step) after.window
is_whole step before after knows =
    elim step as (λ s. TakesStep s (Some []) (Some []) before after → IsWhole (Some s) after.window) [
      | steps.Line len ↦ λ g. let is = told-is_line (Some []) (Some []) (unread before) (unread after) after.window len g.0 in (g.0.said.within, is.0, is.1)
      | steps.Long ↦ λ g. tt
      | steps.EndOfInput ↦ λ g. absurd (knows.1 (HasNoLf-front (unread before) g.0.read g.0.none))
      | steps.ReadFault ↦ λ g. absurd (knows.1 (HasNoLf-front (unread before) g.0.read g.0.none))
      | steps.TooManyReads ↦ λ g. absurd (knows.1 (HasNoLf-front (unread before) g.0.read g.0.none))
    ] (knows.2 (Some []))

-- nothing was to be read
pub comes_none : (old : Option (List ℕ)) (skips : Bool) (window rest : List ℕ) → IsRest skips window rest → Comes Bytes old old rest skips window
comes_none old skips window rest is = ([], Consumes-nil old, subst (λ (r : List ℕ). IsRest skips window r) (sym (append-nil rest)) is)

-- a line in hand was taken without a read: fewer bytes are unread
pub fewer_unread : (step : Step) (before after : LineState) → LooksInHand (Some step) before after → after.reads ≡ before.reads → length (unread after) < length (unread before)
fewer_unread step before after knows same =
    elim step as (λ s. TakesStep s (Some []) (Some []) before after → length (unread after) < length (unread before)) [
      | steps.Line len ↦ λ g. omega (arith, g.1.fewer, same)
      | steps.Long ↦ λ g. omega (arith, g.1.fewer, same)
      | steps.EndOfInput ↦ λ g. absurd (knows.1 (HasNoLf-front (unread before) g.0.read g.0.none))
      | steps.ReadFault ↦ λ g. absurd (knows.1 (HasNoLf-front (unread before) g.0.read g.0.none))
      | steps.TooManyReads ↦ λ g. absurd (knows.1 (HasNoLf-front (unread before) g.0.read g.0.none))
    ] (knows.2 (Some []))
