-- The reading of an audit: the subjects after the lines that were read so far.
use Rattle.std.proofs.Common.{◌≡◌, ℕ, true, false, cond, List, [], ◌++◌, Option, None, Some, Result, Ok, Err, refl, sym, ap, subst, ◌∙◌, append_assoc}
use Rattle.std.proofs.KnownBytes.{Appends-nil, Appends-trans, Consumes-trans, Consumes-nil}
use Rattle.std.specs.Io.KnownBytes.{Consumes, Appends}
use Rattle.rx_proto.specs.declared.line_error.BadLine.{BadLine}
use Rattle.rx_lines.specs.declared.line_state.LineState.{LineState}
use Rattle.rx_proto.specs.declared.script_line.ScriptLine.{ScriptLine}
use Rattle.rx_session.specs.declared.session_end.SessionEnd.{SessionEnd}
use Rattle.rx_session.specs.declared.session_end.SessionEnd.TheVariants as ends
use Rattle.rx_script.specs.Audits.{Audits, audited, audit_written, prints, Prints, Learns, Enters, Follows, after_entry}
use Rattle.rx_proto.specs.Bytes.{AppendsPrefix, Writes}
use Rattle.rx_lines.specs.Bytes.{Holds}
use Rattle.rx_lines.specs.Lines.{lines_of, TakesLine, TakesNoLine, without_cr}
use Rattle.rx_proto.specs.Reading.{script_read}
use Rattle.rx_lines.specs.Steps.{unread, GoesOn}
use Rattle.rx_script.specs.Transcripts.{Subject, State, new_state, has_end}
use Rattle.rx_lines.proofs.LinesOf.{lines_of-first, lines_of-taken, lines_of-none}
use Rattle.rx_lines.proofs.Written.{Prefix-none}
use Rattle.rx_proto.proofs.Writes.{Prefix-behind}

-- ONE LINE

taken : (read_old read_new : Option (List ℕ)) (before after : List ℕ) (says then : List ℕ → Type 0) → ((line : List ℕ) → says line → then line)
    → TakesLine read_old read_new before after says → TakesLine read_old read_new before after then
taken read_old read_new before after says then so takes =
    record { read = takes.read; line = takes.line; told = takes.told; begins = takes.begins; said = so (without_cr takes.line) takes.said }

-- a line that was taken is entered
pub follows : (end : Option SessionEnd) (state now : State) (read_old read_new : Option (List ℕ)) (before after : LineState)
    (reading : Result ScriptLine BadLine) (says : List ℕ → Type 0)
    → ((line : List ℕ) → says line → script_read line ≡ reading) → TakesLine read_old read_new (unread before) (unread after) says → GoesOn before after
    → Enters end state now reading → Follows end state now read_old read_new before after
follows None state now read_old read_new before after reading says so takes goes_on enters = (
  taken read_old read_new (unread before) (unread after) says (λ line. Enters None state now (script_read line))
      (λ line said. subst (λ (r : Result ScriptLine BadLine). Enters None state now r) (sym (so line said)) enters) takes,
  goes_on,
)
follows (Some ends.Quit) state now read_old read_new before after reading says so takes goes_on enters =
    taken read_old read_new (unread before) (unread after) says (λ line. Enters (Some ends.Quit) state now (script_read line))
    (λ line said. subst (λ (r : Result ScriptLine BadLine). Enters (Some ends.Quit) state now r) (sym (so line said)) enters) takes
follows (Some ends.EndOfInput) state now read_old read_new before after reading says so takes goes_on enters = let e = enters.0 in cc
follows (Some ends.HandedOver) state now read_old read_new before after reading says so takes goes_on enters = let e = enters.0 in cc
follows (Some ends.ReadFault) state now read_old read_new before after reading says so takes goes_on enters = let e = enters.0 in cc
follows (Some ends.WriteFault) state now read_old read_new before after reading says so takes goes_on enters = let e = enters.0 in cc
follows (Some ends.TooManyReads) state now read_old read_new before after reading says so takes goes_on enters = let e = enters.0 in cc

-- ALL LINES

-- some bytes were read, and the subjects after all the lines are those after the unread ones, from the state as it is now
pub record LearnsSoFar (first now : State) (read_old read_now : Option (List ℕ)) (rest : List ℕ) : Type 0 where
  pub read : List ℕ
  pub consumed : Consumes read_old read_now read
  pub goes_on : (more : List ℕ) → audited first (lines_of (read ++ more)) ≡ audited now (lines_of (rest ++ more))
  pub ended : (more : List ℕ) → has_end (lines_of (read ++ more)) ≡ has_end (lines_of (rest ++ more))

-- at first
pub LearnsSoFar-begun : (first : State) (read : Option (List ℕ)) (rest : List ℕ) → rest ≡ [] → LearnsSoFar first first read read rest
LearnsSoFar-begun first read rest none = record {
  read = [];
  consumed = Consumes-nil read;
  goes_on = λ more. ap (λ r. audited first (lines_of (r ++ more))) (sym none);
  ended = λ more. ap (λ r. has_end (lines_of (r ++ more))) (sym none);
}

-- a line was entered
pub LearnsSoFar-line : (first now next : State) (read_old read_now read_new : Option (List ℕ)) (rest rest_after : List ℕ)
    → LearnsSoFar first now read_old read_now rest
    → TakesLine read_now read_new rest rest_after (λ line. Enters None now next (script_read line))
    → LearnsSoFar first next read_old read_new rest_after
LearnsSoFar-line first now next read_old read_now read_new rest rest_after h takes =
    let read = takes.read in
    let line = script_read (without_cr takes.line) in
    record {
      read = h.read ++ read;
      consumed = Consumes-trans read_old read_now read_new h.read read h.consumed takes.told;
      goes_on = λ more.
          ap (λ xs. audited first (lines_of xs)) (append_assoc h.read read more) ∙ h.goes_on (read ++ more)
          ∙ ap (audited now) (lines_of-taken rest read takes.line rest_after more takes.begins)
          ∙ ap (λ b. cond b now.subjects (audited (after_entry now line) (lines_of (rest_after ++ more)))) takes.said.0
          ∙ ap (λ state. audited state (lines_of (rest_after ++ more))) (sym takes.said.1);
      ended = λ more.
          ap (λ xs. has_end (lines_of xs)) (append_assoc h.read read more) ∙ h.ended (read ++ more)
          ∙ ap has_end (lines_of-taken rest read takes.line rest_after more takes.begins)
          ∙ ap (λ b. cond b true (has_end (lines_of (rest_after ++ more)))) takes.said.0;
    }

-- no line was left
none_left : (first now last : State) (read_old read_now read_new : Option (List ℕ)) (rest : List ℕ)
    → (h : LearnsSoFar first now read_old read_now rest) → (takes : TakesNoLine read_now read_new rest) → last ≡ now
    → (last.subjects ≡ audited first (lines_of (h.read ++ takes.read))) × (has_end (lines_of (h.read ++ takes.read)) ≡ false)
none_left first now last read_old read_now read_new rest h takes same =
    let none = lines_of-none (rest ++ takes.read) takes.none in
    (ap (λ (state : State). state.subjects) same ∙ sym (h.goes_on takes.read ∙ ap (audited now) none), h.ended takes.read ∙ ap has_end none)

-- the input ended
pub learns : (end : SessionEnd) (first now last : State) (read_old read_now read_new : Option (List ℕ)) (before later : LineState)
    → LearnsSoFar first now read_old read_now (unread before) → Follows (Some end) now last read_now read_new before later
    → Learns first last.subjects end read_old read_new
learns ends.Quit first now last read_old read_now read_new before later h takes =
    let line = script_read (without_cr takes.line) in
    let parted = lines_of-first (unread before ++ takes.read) takes.line (unread later) takes.begins in
    record {
      read = h.read ++ takes.read;
      consumed = Consumes-trans read_old read_now read_new h.read takes.read h.consumed takes.told;
      are = ap (λ (state : State). state.subjects) takes.said.2 ∙ sym (h.goes_on takes.read ∙ ap (audited now) parted ∙ ap (λ b. cond b now.subjects (audited (after_entry now line) (lines_of (unread later)))) takes.said.1);
      ends = h.ended takes.read ∙ ap has_end parted ∙ ap (λ b. cond b true (has_end (lines_of (unread later)))) takes.said.1;
    }
learns ends.EndOfInput first now last read_old read_now read_new before later h takes =
    let left = none_left first now last read_old read_now read_new (unread before) h takes.0 takes.2 in
    record {
      read = h.read ++ takes.0.read;
      consumed = Consumes-trans read_old read_now read_new h.read takes.0.read h.consumed takes.0.told;
      are = left.0;
      ends = (left.1, takes.1);
    }
learns ends.HandedOver first now last read_old read_now read_new before later h takes = absurd takes
learns ends.ReadFault first now last read_old read_now read_new before later h takes =
    let left = none_left first now last read_old read_now read_new (unread before) h takes.0 takes.1 in
    record {
      read = h.read ++ takes.0.read;
      consumed = Consumes-trans read_old read_now read_new h.read takes.0.read h.consumed takes.0.told;
      are = left.0;
      ends = left.1;
    }
learns ends.WriteFault first now last read_old read_now read_new before later h takes = absurd takes
learns ends.TooManyReads first now last read_old read_now read_new before later h takes =
    let left = none_left first now last read_old read_now read_new (unread before) h takes.0 takes.1 in
    record {
      read = h.read ++ takes.0.read;
      consumed = Consumes-trans read_old read_now read_new h.read takes.0.read h.consumed takes.0.told;
      are = left.0;
      ends = left.1;
    }

-- the same, by what the next line was answered
pub learns-end : (answer : Option SessionEnd) (end : SessionEnd) (first now last : State) (read_old read_now read_new : Option (List ℕ)) (before later : LineState)
    → answer ≡ Some end → LearnsSoFar first now read_old read_now (unread before) → Follows answer now last read_now read_new before later
    → Learns first last.subjects end read_old read_new
learns-end answer end first now last read_old read_now read_new before later is h goes =
    learns end first now last read_old read_now read_new before later h
    (subst (λ (a : Option SessionEnd). Follows a now last read_now read_new before later) is goes)

-- the input goes on
pub learns-on : (answer : Option SessionEnd) (first now next : State) (read_old read_now read_new : Option (List ℕ)) (before later : LineState)
    → answer ≡ None → LearnsSoFar first now read_old read_now (unread before) → Follows answer now next read_now read_new before later
    → LearnsSoFar first next read_old read_new (unread later) × GoesOn before later
learns-on answer first now next read_old read_now read_new before later is h goes =
    let line = subst (λ (a : Option SessionEnd). Follows a now next read_now read_new before later) is goes in
    (LearnsSoFar-line first now next read_old read_now read_new (unread before) (unread later) h line.0, line.1)

-- THE PRINTING

-- at an end that prints, all is printed
pub Prints-all : (end : SessionEnd) (old new : Option (List ℕ)) (bytes : List ℕ) → prints end ≡ true → Appends old new bytes → Prints end old new bytes
Prints-all ends.Quit old new bytes is told = told
Prints-all ends.EndOfInput old new bytes is told = told
Prints-all ends.HandedOver old new bytes is told = cc
Prints-all ends.ReadFault old new bytes is told = cc
Prints-all ends.WriteFault old new bytes is told = cc
Prints-all ends.TooManyReads old new bytes is told = cc

-- what was held and then written is what was put
pub Writes-held : {T E : Type 0} (result : Result T E) (old mid new : Option (List ℕ)) (held bytes : List ℕ)
    → Holds [] held old mid bytes → Writes result mid new held → Writes result old new bytes
Writes-held (Ok x) old mid new held bytes holds all =
    subst (λ (xs : List ℕ). Appends old new xs) holds.parts (Appends-trans old mid new holds.written held holds.told all)
Writes-held (Err e) old mid new held bytes holds front =
    subst (λ (xs : List ℕ). AppendsPrefix old new xs) holds.parts (Prefix-behind old mid new holds.written held holds.told front)

-- at an end that does not print, nothing is printed
pub Prints-none : (end : SessionEnd) (known : Option (List ℕ)) (bytes : List ℕ) → prints end ≡ false → Prints end known known bytes
Prints-none ends.Quit known bytes is = cc
Prints-none ends.EndOfInput known bytes is = cc
Prints-none ends.HandedOver known bytes is = refl
Prints-none ends.ReadFault known bytes is = refl
Prints-none ends.WriteFault known bytes is = Prefix-none known known [] bytes bytes refl (Appends-nil known)
Prints-none ends.TooManyReads known bytes is = refl

-- the lines were read and the audit printed
pub audits : (end : SessionEnd) (first subjects after : List Subject) (read_old read_new written_old written_new : Option (List ℕ))
    → subjects ≡ first → Learns (new_state subjects) after end read_old read_new → Prints end written_old written_new (audit_written after)
    → Audits first end read_old read_new written_old written_new
audits end first subjects after read_old read_new written_old written_new same learned printed = record {
  read = learned.read;
  consumed = learned.consumed;
  written = subst (λ (ss : List Subject). Prints end written_old written_new (audit_written ss))
      (learned.are ∙ ap (λ ss. audited (new_state ss) (lines_of learned.read)) same) printed;
  ends = learned.ends;
}

-- the writer faulted
pub audits-faulty : (end : SessionEnd) (first subjects after : List Subject) (read_old read_new written_old written_new : Option (List ℕ))
    → subjects ≡ first → Learns (new_state subjects) after end read_old read_new → AppendsPrefix written_old written_new (audit_written after)
    → Audits first ends.WriteFault read_old read_new written_old written_new
audits-faulty end first subjects after read_old read_new written_old written_new same learned front = record {
  read = learned.read;
  consumed = learned.consumed;
  written = subst (λ (ss : List Subject). AppendsPrefix written_old written_new (audit_written ss))
      (learned.are ∙ ap (λ ss. audited (new_state ss) (lines_of learned.read)) same) front;
  ends = tt;
}

-- want of memory ended the printing
pub audits-broken : (end : SessionEnd) (first subjects after : List Subject) (read_old read_new written_old written_new : Option (List ℕ))
    → subjects ≡ first → Learns (new_state subjects) after end read_old read_new → AppendsPrefix written_old written_new (audit_written after)
    → (read : List ℕ) × Consumes read_old read_new read × AppendsPrefix written_old written_new (audit_written (audited (new_state first) (lines_of read)))
audits-broken end first subjects after read_old read_new written_old written_new same learned front = (
  learned.read,
  learned.consumed,
  subst (λ (ss : List Subject). AppendsPrefix written_old written_new (audit_written ss))
      (learned.are ∙ ap (λ ss. audited (new_state ss) (lines_of learned.read)) same) front,
)
