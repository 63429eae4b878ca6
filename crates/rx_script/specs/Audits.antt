-- What the audit of a script is: the subjects after its lines, and the printing of what each observer was given and of
-- what waits for it, in the first version: a HELLO is passed over. The rules are this project's own.
--
-- For every reader and writer that tell their bytes there are the bytes that were read. At the end of the input or at `QUIT`,
-- what was written is the printing of what each observer of each subject was given and of what waits for it, in version 1, by
-- the definitions over the histories that the lines of those bytes define, of which a `HELLO` changes none; after a write
-- fault it is a prefix of that; after a read fault or too many reads nothing was written; where memory was wanting, nothing
-- or a prefix. Carried by `run_audit`: the record `Audits`, and `BreaksOff` for want of memory.
use Rattle.std.specs.Prelude.{◌≡◌, ◌⊎◌, ℕ, zero, suc, Bool, true, false, if◌then◌else◌, List, [], ◌∷◌, ◌++◌, map, Option, None, Some, is_some, Result, codes, decimal}
use Rattle.std.specs.List.{flat_map}
use Rattle.std.specs.Io.KnownBytes.{Consumes, Appends, IsAtEnd}
use Rattle.rx_note.specs.declared.note.Note.{Note}
use Rattle.rx_history.specs.Histories.{joins, signals, given_to, waiting_for}
use Rattle.rx_history.specs.Stored.{history_of}
use Rattle.rx_script.specs.declared.asked.Asked.{Asked}
use Rattle.rx_script.specs.declared.audit.Audit.{Audit}
use Rattle.rx_script.specs.declared.ledger.Ledger.{Ledger}
use Rattle.rx_proto.specs.declared.line_error.BadLine.{BadLine}
use Rattle.rx_lines.specs.declared.line_state.LineState.{LineState}
use Rattle.rx_script.specs.declared.observed.Observed.{Observed}
use Rattle.rx_proto.specs.declared.script_line.ScriptLine.{ScriptLine}
use Rattle.rx_session.specs.declared.session_end.SessionEnd.{SessionEnd}
use Rattle.rx_session.specs.declared.session_end.SessionEnd.TheVariants as ends
use Rattle.rx_proto.specs.Bytes.{AppendsPrefix}
use Rattle.rx_lines.specs.Lines.{lines_of, TakesLine, TakesNoLine}
use Rattle.rx_proto.specs.Printing.{note_line}
use Rattle.rx_proto.specs.Reading.{script_read}
use Rattle.rx_proto.specs.declared.version.Version.TheVariants.{One}
use Rattle.rx_script.specs.Scripts.{EndsSo}
use Rattle.rx_lines.specs.Steps.{unread, GoesOn}
use Rattle.rx_script.specs.Transcripts.{Subject, State, new_state, after_asked, after_line, ends_script, is_quit}

-- THE SUBJECTS AFTER THE LINES

-- the state after what a line asks, but for the version, which no line changes
abbrev pub after_heard : State → Asked → State
after_heard state asked = record (after_asked state asked) { version = state.version }

-- the state after a line
abbrev pub after_entry : State → Result ScriptLine BadLine → State
after_entry state line = record (after_line state line false) { version = state.version }

-- the subjects after the lines up to the first that ends the script; no line meets want of memory
abbrev pub audited : State → List (List ℕ) → List Subject
audited state [] = state.subjects
audited state (line ∷ lines) =
    if ends_script (script_read line) then state.subjects else audited (after_entry state (script_read line)) lines

-- WHAT IS PRINTED

-- the line that begins what is printed of an observer
abbrev pub observer_line : List ℕ → ℕ → List ℕ
observer_line name who = codes "OBSERVER " ++ (name ++ (32 ∷ (decimal who ++ 10 ∷ [])))

-- a line for each note, with a mark before it
abbrev pub note_lines : List ℕ → List Note → List ℕ
note_lines mark notes = flat_map (λ note. mark ++ note_line One note) notes

-- the lines of an observer: those of the notes given, and then of those that wait
abbrev pub observed_lines : List ℕ → ℕ → List Note → List Note → List ℕ
observed_lines name who given waiting = observer_line name who ++ (note_lines (codes "GIVEN ") given ++ note_lines (codes "WAITING ") waiting)

-- the lines of an observer of a subject
abbrev pub observer_written : Subject → ℕ → List ℕ
observer_written subject who =
    observed_lines subject.name who (given_to subject.rules subject.history who) (waiting_for subject.rules subject.history who)

-- the lines of the first observers of a subject
abbrev pub observers_written : Subject → ℕ → List ℕ
observers_written subject zero = []
observers_written subject (suc who) = observers_written subject who ++ observer_written subject who

-- the lines of all observers of a subject
abbrev pub subject_written : Subject → List ℕ
subject_written subject = observers_written subject (joins subject.rules subject.history)

-- the lines of all subjects
abbrev pub audit_written : List Subject → List ℕ
audit_written subjects = flat_map subject_written subjects

-- THE WHOLE RUN

-- whether the audit is printed at an end
abbrev pub prints : SessionEnd → Bool
prints ends.Quit = true
prints ends.EndOfInput = true
prints ends.HandedOver = false
prints ends.ReadFault = false
prints ends.WriteFault = false
prints ends.TooManyReads = false

-- what was written is all of these bytes where the input came to its end, and else nothing; after a fault of the writer a
-- front of them
abbrev pub Prints : SessionEnd → Option (List ℕ) → Option (List ℕ) → List ℕ → Type 0
Prints ends.Quit old new bytes = Appends old new bytes
Prints ends.EndOfInput old new bytes = Appends old new bytes
Prints ends.HandedOver old new bytes = new ≡ old
Prints ends.ReadFault old new bytes = new ≡ old
Prints ends.WriteFault old new bytes = AppendsPrefix old new bytes
Prints ends.TooManyReads old new bytes = new ≡ old

-- THE AUDIT'S BYTES: what is written is the printing of the subjects after the lines of the bytes that were read, from
-- moment 0 on
pub record Audits (subjects : List Subject) (end : SessionEnd) (read_old read_new written_old written_new : Option (List ℕ)) : Type 0 where
  pub read : List ℕ
  pub consumed : Consumes read_old read_new read
  pub written : Prints end written_old written_new (audit_written (audited (new_state subjects) (lines_of read)))
  pub ends : EndsSo end read_new (lines_of read)

-- want of memory ended the run: nothing was written, or a front of the printing of the subjects after the lines that were
-- read
abbrev pub BreaksOff : List Subject → Option (List ℕ) → Option (List ℕ) → Option (List ℕ) → Option (List ℕ) → Type 0
BreaksOff subjects read_old read_new written_old written_new =
    (written_new ≡ written_old)
    ⊎ ((read : List ℕ) × Consumes read_old read_new read × AppendsPrefix written_old written_new (audit_written (audited (new_state subjects) (lines_of read))))

-- THE LEDGERS

-- the subject of a ledger
abbrev pub subject_in : Ledger → Subject
subject_in ledger = record { name = ledger.subject.name; rules = ledger.subject.rules; history = history_of ledger.history }

-- the subjects of ledgers
abbrev pub subjects_in : List Ledger → List Subject
subjects_in ledgers = map subject_in ledgers

-- the state of an audit
abbrev pub state_in : Audit → State
state_in audit = record { subjects = subjects_in audit.ledgers.items; moment = audit.moment; version = One }

-- what is known of an observer is what it was given and what waits for it, or that there is none
abbrev pub Observes : Option Observed → Subject → ℕ → Type 0
Observes None subject who = signals subject.rules subject.history who ≡ None
Observes (Some observed) subject who =
    (is_some (signals subject.rules subject.history who) ≡ true)
    × (observed.given.items ≡ given_to subject.rules subject.history who)
    × (observed.waiting.items ≡ waiting_for subject.rules subject.history who)

-- all the lines were read, and the subjects are those after them
pub record Learns (state : State) (after : List Subject) (end : SessionEnd) (read_old read_new : Option (List ℕ)) : Type 0 where
  pub read : List ℕ
  pub consumed : Consumes read_old read_new read
  pub are : after ≡ audited state (lines_of read)
  pub ends : EndsSo end read_new (lines_of read)

-- what a line asks was done, or it ended the script
abbrev pub EntersAsked : Option SessionEnd → State → State → Asked → Type 0
EntersAsked None state after asked = (is_quit asked ≡ false) × (after ≡ after_heard state asked)
EntersAsked (Some end) state after asked = (end ≡ ends.Quit) × (is_quit asked ≡ true) × (after ≡ state)

-- the same of a line
abbrev pub Enters : Option SessionEnd → State → State → Result ScriptLine BadLine → Type 0
Enters None state after line = (ends_script line ≡ false) × (after ≡ after_entry state line)
Enters (Some end) state after line = (end ≡ ends.Quit) × (ends_script line ≡ true) × (after ≡ state)

-- the next line was taken and what it asks done, or there was none and an end
abbrev pub Follows : Option SessionEnd → State → State → Option (List ℕ) → Option (List ℕ) → LineState → LineState → Type 0
Follows None state now read_old read_new before after =
    TakesLine read_old read_new (unread before) (unread after) (λ line. Enters None state now (script_read line)) × GoesOn before after
Follows (Some ends.Quit) state now read_old read_new before after =
    TakesLine read_old read_new (unread before) (unread after) (λ line. Enters (Some ends.Quit) state now (script_read line))
Follows (Some ends.EndOfInput) state now read_old read_new before after =
    TakesNoLine read_old read_new (unread before) × IsAtEnd read_new × (now ≡ state)
Follows (Some ends.HandedOver) state now read_old read_new before after = ⊥
Follows (Some ends.ReadFault) state now read_old read_new before after = TakesNoLine read_old read_new (unread before) × (now ≡ state)
Follows (Some ends.WriteFault) state now read_old read_new before after = ⊥
Follows (Some ends.TooManyReads) state now read_old read_new before after = TakesNoLine read_old read_new (unread before) × (now ≡ state)
