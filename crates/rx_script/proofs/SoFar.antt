-- How far the run of a script has come.
use Rattle.std.proofs.Common.{◌≡◌, ℕ, Bool, true, false, cond, List, [], ◌∷◌, ◌++◌, Option, None, Some, sym, ap, subst, ◌∙◌, append_assoc, append-nil}
use Rattle.std.proofs.KnownBytes.{Appends-trans, Appends-nil, Consumes-trans, Consumes-nil}
use Rattle.std.specs.Io.KnownBytes.{Consumes, Appends}
use Rattle.rx_lines.specs.declared.line_state.LineState.{LineState}
use Rattle.rx_script.specs.declared.script.Script.{Script}
use Rattle.rx_session.specs.declared.session_end.SessionEnd.{SessionEnd}
use Rattle.rx_session.specs.declared.session_end.SessionEnd.TheVariants as ends
use Rattle.rx_script.specs.declared.topic.Topic.{Topic}
use Rattle.rx_proto.specs.Bytes.{AppendsPrefix}
use Rattle.rx_lines.specs.Bytes.{Holds, Loses}
use Rattle.rx_proto.specs.LineFeeds.{HasNoLf}
use Rattle.rx_lines.specs.Lines.{without_cr, lines_of, BeginsWithLine, TakesLine, TakesNoLine}
use Rattle.rx_proto.specs.Reading.{script_read}
use Rattle.rx_script.specs.Scripts.{StandForSubjects, Runs}
use Rattle.rx_lines.specs.Steps.{unread}
use Rattle.rx_script.specs.Tellings.{IsIn, Turns, TellsOn}
use Rattle.rx_script.specs.Transcripts.{Subject, State, new_state, line_written, after_line, ends_script, transcript, has_end}
use Rattle.rx_lines.proofs.LinesOf.{lines_of-first, lines_of-taken, lines_of-none}
use Rattle.rx_proto.proofs.LineFeeds.{HasNoLf-front}
use Rattle.rx_proto.proofs.Writes.{Prefix-behind, Prefix-more}

-- some bytes were read and some written; what was written and what is held is the transcript so far, which goes on from
-- the state as it is now over the bytes that are unread
pub record SoFar (subjects : List Subject) (read_old read_now written_old written_now : Option (List ℕ)) (script : Script) (rest : List ℕ) : Type 0 where
  pub read : List ℕ
  pub consumed : Consumes read_old read_now read
  pub written : List ℕ
  pub told : Appends written_old written_now written
  pub now : State
  pub is_in : IsIn script now
  pub goes_on : (marks : List Bool) (more : List ℕ)
      → (all : List Bool) × (transcript (new_state subjects) all (lines_of (read ++ more)) ≡ (written ++ script.outbox) ++ transcript now marks (lines_of (rest ++ more)))
  pub ended : (more : List ℕ) → has_end (lines_of (read ++ more)) ≡ has_end (lines_of (rest ++ more))

-- at first
pub SoFar-begun : (subjects : List Subject) (read written : Option (List ℕ)) (script : Script) (rest : List ℕ)
    → IsIn script (new_state subjects) → rest ≡ [] → script.outbox ≡ [] → SoFar subjects read read written written script rest
SoFar-begun subjects read written script rest is_in none nothing =
    let first = new_state subjects in
    record {
      read = [];
      consumed = Consumes-nil read;
      written = [];
      told = Appends-nil written;
      now = first;
      is_in = is_in;
      goes_on = λ marks more.
          (marks, ap (λ r. transcript first marks (lines_of (r ++ more))) (sym none) ∙ ap (λ h. h ++ transcript first marks (lines_of (rest ++ more))) (sym nothing));
      ended = λ more. ap (λ r. has_end (lines_of (r ++ more))) (sym none);
    }

-- what was held was written, or a front of it
pub SoFar-put : (subjects : List Subject) (read_old read_now w0 w1 w2 : Option (List ℕ)) (script after : Script) (rest rest_after : List ℕ)
    → SoFar subjects read_old read_now w0 w1 script rest → after.topics.items ≡ script.topics.items → after.moment ≡ script.moment → after.version ≡ script.version → rest_after ≡ rest
    → Holds script.outbox after.outbox w1 w2 [] → SoFar subjects read_old read_now w0 w2 after rest_after
SoFar-put subjects read_old read_now w0 w1 w2 script after rest rest_after h same_topics same_moment same_version same_rest holds =
    let same : (h.written ++ holds.written) ++ after.outbox ≡ h.written ++ script.outbox =
    append_assoc h.written holds.written after.outbox ∙ ap (λ xs. h.written ++ xs) (holds.parts ∙ append-nil script.outbox) in
    record {
      read = h.read;
      consumed = h.consumed;
      written = h.written ++ holds.written;
      told = Appends-trans w0 w1 w2 h.written holds.written h.told holds.told;
      now = h.now;
      is_in = record {
        subjects = subst (λ (ts : List Topic). StandForSubjects ts h.now.subjects) (sym same_topics) h.is_in.subjects;
        moment = same_moment ∙ h.is_in.moment;
        version = same_version ∙ h.is_in.version;
      };
      goes_on = λ marks more.
          let so = h.goes_on marks more in (
            so.0,
            so.1 ∙ ap (λ xs. xs ++ transcript h.now marks (lines_of (rest ++ more))) (sym same)
                ∙ ap (λ r. ((h.written ++ holds.written) ++ after.outbox) ++ transcript h.now marks (lines_of (r ++ more))) (sym same_rest),
          );
      ended = λ more. h.ended more ∙ ap (λ r. has_end (lines_of (r ++ more))) (sym same_rest);
    }

-- a line was told
pub SoFar-line : (subjects : List Subject) (read_old read_now read_new w0 w1 w2 : Option (List ℕ)) (script after : Script) (rest rest_after : List ℕ)
    → SoFar subjects read_old read_now w0 w1 script rest
    → TakesLine read_now read_new rest rest_after (λ line. TellsOn None script after w1 w2 (script_read line))
    → SoFar subjects read_old read_new w0 w2 after rest_after
SoFar-line subjects read_old read_now read_new w0 w1 w2 script after rest rest_after h takes =
    let read = takes.read in
    let line = without_cr takes.line in
    let tells = takes.said h.now h.is_in in
    let said = line_written h.now (script_read line) tells.0 in
    let now = after_line h.now (script_read line) tells.0 in
    let done : (h.written ++ tells.1.written) ++ after.outbox ≡ (h.written ++ script.outbox) ++ said =
    append_assoc h.written tells.1.written after.outbox ∙ ap (λ xs. h.written ++ xs) tells.1.parts ∙ sym (append_assoc h.written script.outbox said) in
    record {
      read = h.read ++ read;
      consumed = Consumes-trans read_old read_now read_new h.read read h.consumed takes.told;
      written = h.written ++ tells.1.written;
      told = Appends-trans w0 w1 w2 h.written tells.1.written h.told tells.1.told;
      now = now;
      is_in = tells.3;
      goes_on = λ marks more.
          let so = h.goes_on (tells.0 ∷ marks) (read ++ more) in (
            so.0,
            ap (λ xs. transcript (new_state subjects) so.0 (lines_of xs)) (append_assoc h.read read more) ∙ so.1
                ∙ ap (λ ls. (h.written ++ script.outbox) ++ transcript h.now (tells.0 ∷ marks) ls) (lines_of-taken rest read takes.line rest_after more takes.begins)
                ∙ ap (λ b. (h.written ++ script.outbox) ++ (said ++ cond b [] (transcript now marks (lines_of (rest_after ++ more))))) tells.2
                ∙ sym (append_assoc (h.written ++ script.outbox) said (transcript now marks (lines_of (rest_after ++ more))))
                ∙ ap (λ xs. xs ++ transcript now marks (lines_of (rest_after ++ more))) (sym done),
          );
      ended = λ more.
          ap (λ xs. has_end (lines_of xs)) (append_assoc h.read read more) ∙ h.ended (read ++ more)
          ∙ ap has_end (lines_of-taken rest read takes.line rest_after more takes.begins)
          ∙ ap (λ b. cond b true (has_end (lines_of (rest_after ++ more)))) tells.2;
    }

-- THE END

-- the writer faulted before the next line
pub Runs-fault : (subjects : List Subject) (read_old read_now w0 w1 w2 : Option (List ℕ)) (script : Script) (rest after : List ℕ)
    → SoFar subjects read_old read_now w0 w1 script rest → Loses script.outbox after w1 w2 [] → Runs subjects ends.WriteFault read_old read_now w0 w2
Runs-fault subjects read_old read_now w0 w1 w2 script rest after h loses =
    let so = h.goes_on [] [] in
    let same : (h.written ++ script.outbox) ++ transcript h.now [] (lines_of (rest ++ [])) ≡ transcript (new_state subjects) so.0 (lines_of h.read) =
    sym so.1 ∙ ap (λ xs. transcript (new_state subjects) so.0 (lines_of xs)) (append-nil h.read) in
    let front : AppendsPrefix w1 w2 script.outbox = subst (λ (xs : List ℕ). AppendsPrefix w1 w2 xs) (append-nil script.outbox) loses.written in
    record {
      read = h.read;
      marks = so.0;
      consumed = h.consumed;
      written = subst (λ (xs : List ℕ). AppendsPrefix w0 w2 xs) same
          (Prefix-more w0 w2 (h.written ++ script.outbox) (transcript h.now [] (lines_of (rest ++ []))) (Prefix-behind w0 w1 w2 h.written script.outbox h.told front));
      ends = tt;
    }

-- the transcript of all that was read, where the last line was taken
whole : (subjects : List Subject) (read_old read_now read_new w0 w1 : Option (List ℕ)) (script : Script) (rest rest_after : List ℕ)
    → (h : SoFar subjects read_old read_now w0 w1 script rest) → (missed : Bool) (read line : List ℕ) → BeginsWithLine (rest ++ read) line rest_after
    → (all : List Bool) × (transcript (new_state subjects) all (lines_of (h.read ++ read))
    ≡ (h.written ++ script.outbox) ++ (line_written h.now (script_read (without_cr line)) missed
    ++ cond (ends_script (script_read (without_cr line))) [] (transcript (after_line h.now (script_read (without_cr line)) missed) [] (lines_of rest_after))))
whole subjects read_old read_now read_new w0 w1 script rest rest_after h missed read line begins =
    let so = h.goes_on (missed ∷ []) read in
    (so.0, so.1 ∙ ap (λ ls. (h.written ++ script.outbox) ++ transcript h.now (missed ∷ []) ls) (lines_of-first (rest ++ read) line rest_after begins))

-- no line was left
none_left : (subjects : List Subject) (read_old read_now read_new w0 w1 w2 : Option (List ℕ)) (script : Script) (rest : List ℕ)
    → (h : SoFar subjects read_old read_now w0 w1 script rest) → (takes : TakesNoLine read_now read_new rest) → w2 ≡ w1 → (HasNoLf rest → script.outbox ≡ [])
    → (all : List Bool) × Appends w0 w2 (transcript (new_state subjects) all (lines_of (h.read ++ takes.read))) × (has_end (lines_of (h.read ++ takes.read)) ≡ false)
none_left subjects read_old read_now read_new w0 w1 w2 script rest h takes same empty =
    let so = h.goes_on [] takes.read in
    let nothing : script.outbox ≡ [] = empty (HasNoLf-front rest takes.read takes.none) in
    let done : transcript (new_state subjects) so.0 (lines_of (h.read ++ takes.read)) ≡ h.written =
    so.1 ∙ ap (λ ls. (h.written ++ script.outbox) ++ transcript h.now [] ls) (lines_of-none (rest ++ takes.read) takes.none)
    ∙ append-nil (h.written ++ script.outbox) ∙ ap (λ xs. h.written ++ xs) nothing ∙ append-nil h.written in
    let told : Appends w0 w2 h.written = subst (λ (w : Option (List ℕ)). Appends w0 w h.written) (sym same) h.told in (
      so.0,
      subst (λ (xs : List ℕ). Appends w0 w2 xs) (sym done) told,
      h.ended takes.read ∙ ap has_end (lines_of-none (rest ++ takes.read) takes.none),
    )

-- the script ended by a turn
pub Runs-end : (end : SessionEnd) (subjects : List Subject) (read_old read_now read_new w0 w1 w2 : Option (List ℕ)) (script after : Script) (before later : LineState)
    → SoFar subjects read_old read_now w0 w1 script (unread before) → (HasNoLf (unread before) → script.outbox ≡ [])
    → Turns (Some end) script after w1 w2 read_now read_new before later → Runs subjects end read_old read_new w0 w2
Runs-end ends.Quit subjects read_old read_now read_new w0 w1 w2 script after before later h empty takes =
    let tells = takes.said h.now h.is_in in
    let said = line_written h.now (script_read (without_cr takes.line)) tells.0 in
    let all = whole subjects read_old read_now read_new w0 w1 script (unread before) (unread later) h tells.0 takes.read takes.line takes.begins in
    let done : h.written ++ (script.outbox ++ said) ≡ transcript (new_state subjects) all.0 (lines_of (h.read ++ takes.read)) =
    sym (append_assoc h.written script.outbox said) ∙ ap (λ xs. (h.written ++ script.outbox) ++ xs) (sym (append-nil said))
    ∙ sym (all.1 ∙ ap (λ b. (h.written ++ script.outbox) ++ (said ++ cond b [] (transcript (after_line h.now (script_read (without_cr takes.line)) tells.0) [] (lines_of (unread later))))) tells.2) in
    record {
      read = h.read ++ takes.read;
      marks = all.0;
      consumed = Consumes-trans read_old read_now read_new h.read takes.read h.consumed takes.told;
      written = subst (λ (xs : List ℕ). Appends w0 w2 xs) done (Appends-trans w0 w1 w2 h.written (script.outbox ++ said) h.told tells.1);
      ends = h.ended takes.read ∙ ap has_end (lines_of-first (unread before ++ takes.read) takes.line (unread later) takes.begins)
          ∙ ap (λ b. cond b true (has_end (lines_of (unread later)))) tells.2;
    }
Runs-end ends.EndOfInput subjects read_old read_now read_new w0 w1 w2 script after before later h empty takes =
    let left = none_left subjects read_old read_now read_new w0 w1 w2 script (unread before) h takes.0 takes.2 empty in
    record {
      read = h.read ++ takes.0.read;
      marks = left.0;
      consumed = Consumes-trans read_old read_now read_new h.read takes.0.read h.consumed takes.0.told;
      written = left.1;
      ends = (left.2, takes.1);
    }
Runs-end ends.HandedOver subjects read_old read_now read_new w0 w1 w2 script after before later h empty takes = absurd takes
Runs-end ends.ReadFault subjects read_old read_now read_new w0 w1 w2 script after before later h empty takes =
    let left = none_left subjects read_old read_now read_new w0 w1 w2 script (unread before) h takes.0 takes.1 empty in
    record {
      read = h.read ++ takes.0.read;
      marks = left.0;
      consumed = Consumes-trans read_old read_now read_new h.read takes.0.read h.consumed takes.0.told;
      written = left.1;
      ends = left.2;
    }
Runs-end ends.WriteFault subjects read_old read_now read_new w0 w1 w2 script after before later h empty takes =
    let tells = takes.said h.now h.is_in in
    let said = line_written h.now (script_read (without_cr takes.line)) tells.0 in
    let then = cond (ends_script (script_read (without_cr takes.line))) [] (transcript (after_line h.now (script_read (without_cr takes.line)) tells.0) [] (lines_of (unread later))) in
    let all = whole subjects read_old read_now read_new w0 w1 script (unread before) (unread later) h tells.0 takes.read takes.line takes.begins in
    let done : (h.written ++ (script.outbox ++ said)) ++ then ≡ transcript (new_state subjects) all.0 (lines_of (h.read ++ takes.read)) =
    ap (λ xs. xs ++ then) (sym (append_assoc h.written script.outbox said)) ∙ append_assoc (h.written ++ script.outbox) said then ∙ sym all.1 in
    record {
      read = h.read ++ takes.read;
      marks = all.0;
      consumed = Consumes-trans read_old read_now read_new h.read takes.read h.consumed takes.told;
      written = subst (λ (xs : List ℕ). AppendsPrefix w0 w2 xs) done
          (Prefix-more w0 w2 (h.written ++ (script.outbox ++ said)) then (Prefix-behind w0 w1 w2 h.written (script.outbox ++ said) h.told tells.1));
      ends = tt;
    }
Runs-end ends.TooManyReads subjects read_old read_now read_new w0 w1 w2 script after before later h empty takes =
    let left = none_left subjects read_old read_now read_new w0 w1 w2 script (unread before) h takes.0 takes.1 empty in
    record {
      read = h.read ++ takes.0.read;
      marks = left.0;
      consumed = Consumes-trans read_old read_now read_new h.read takes.0.read h.consumed takes.0.told;
      written = left.1;
      ends = left.2;
    }
