-- What a run of a script does as a whole, and what a topic does that takes an event.
--
-- For every reader and writer that tell their bytes there are the bytes that were read and a mark for each line that met want
-- of memory, and what was written is the transcript of the lines of those bytes, each note in the version that the last
-- accepted `HELLO` before it set; after a write fault it is a prefix of that; the end that is answered is the one that the
-- input gives. A mark counts only at a line to a known subject that may take memory: for its text, or for an event that is
-- accepted and is no dispose. Where a hub could not be made, nothing was read or written. Carried by `run_script`: the record
-- `Runs`.
use Rattle.std.specs.Prelude.{◌≡◌, ℕ, Bool, true, false, List, [], ◌∷◌, map, Option, Result, if◌then◌else◌, slice_index_or, slice_set}
use Rattle.std.specs.Io.KnownBytes.{Consumes, Appends, IsAtEnd}
use Rattle.rx_history.specs.Histories.{NoEvents}
use Rattle.rx_hub.specs.Hubs.{StandsFor}
use Rattle.rx_note.specs.declared.event.Event.{Event}
use Rattle.rx_proto.specs.declared.response.Response.TheVariants.{Refused}
use Rattle.rx_proto.specs.declared.word.Word.TheVariants as words
use Rattle.rx_session.specs.declared.session_end.SessionEnd.{SessionEnd}
use Rattle.rx_session.specs.declared.session_end.SessionEnd.TheVariants as ends
use Rattle.rx_config.specs.declared.subject_config.SubjectConfig.{SubjectConfig}
use Rattle.rx_script.specs.declared.told.Told.{Told}
use Rattle.rx_script.specs.declared.topic.Topic.{Topic}
use Rattle.rx_proto.specs.declared.version.Version.{Version}
use Rattle.rx_proto.specs.declared.writer.WriteFault.{WriteFault}
use Rattle.rx_proto.specs.Bytes.{AppendsPrefix}
use Rattle.rx_lines.specs.Bytes.{Puts}
use Rattle.rx_lines.specs.Lines.{lines_of}
use Rattle.rx_proto.specs.Printing.{reply_line}
use Rattle.rx_script.specs.Transcripts.{Subject, new_state, takes_it_with_memory, taking, event_written, transcript, has_end}

-- THE WHOLE RUN

-- the subject of a configuration, with no event yet
abbrev pub new_subject : SubjectConfig → Subject
new_subject config = record { name = config.name; rules = config.rules; history = NoEvents }

-- the subjects of a configuration
abbrev pub new_subjects : List SubjectConfig → List Subject
new_subjects configs = map new_subject configs

-- what was written is all of these bytes; after a fault of the writer a front of them
abbrev pub Wrote : SessionEnd → Option (List ℕ) → Option (List ℕ) → List ℕ → Type 0
Wrote ends.Quit old new bytes = Appends old new bytes
Wrote ends.EndOfInput old new bytes = Appends old new bytes
Wrote ends.HandedOver old new bytes = ⊥
Wrote ends.ReadFault old new bytes = Appends old new bytes
Wrote ends.WriteFault old new bytes = AppendsPrefix old new bytes
Wrote ends.TooManyReads old new bytes = Appends old new bytes

-- the end is the one that the input gives; a script is never handed over
abbrev pub EndsSo : SessionEnd → Option (List ℕ) → List (List ℕ) → Type 0
EndsSo ends.Quit left lines = has_end lines ≡ true
EndsSo ends.EndOfInput left lines = (has_end lines ≡ false) × IsAtEnd left
EndsSo ends.HandedOver left lines = ⊥
EndsSo ends.ReadFault left lines = has_end lines ≡ false
EndsSo ends.WriteFault left lines = Unit {0}
EndsSo ends.TooManyReads left lines = has_end lines ≡ false

-- THE SCRIPT'S BYTES: what is written is the transcript of the lines of the bytes that were read, over the subjects, from
-- moment 0 on and with a mark for each line that met want of memory
pub record Runs (subjects : List Subject) (end : SessionEnd) (read_old read_new written_old written_new : Option (List ℕ)) : Type 0 where
  pub read : List ℕ
  pub marks : List Bool
  pub consumed : Consumes read_old read_new read
  pub written : Wrote end written_old written_new (transcript (new_state subjects) marks (lines_of read))
  pub ends : EndsSo end read_new (lines_of read)

-- ONE EVENT

-- the hub of a topic stands for the history of a subject
pub record StandsForSubject (topic : Topic) (subject : Subject) : Type 0 where
  pub name : topic.name ≡ subject.name
  pub rules : topic.hub.state.rules ≡ subject.rules
  pub history : StandsFor topic.hub.state subject.history

-- each topic's hub stands for the history of the subject at its place
abbrev pub StandForSubjects : List Topic → List Subject → Type 0
StandForSubjects [] [] = Unit {0}
StandForSubjects [] (subject ∷ subjects) = ⊥
StandForSubjects (topic ∷ topics) [] = ⊥
StandForSubjects (topic ∷ topics) (subject ∷ subjects) = StandsForSubject topic subject × StandForSubjects topics subjects

-- what a topic did that took an event: its answer and the notes given were put in a version, and it stands for the subject that has taken
-- it; or an event that would have been accepted met want of memory
abbrev pub TakesEvent : Result (Unit {0}) WriteFault → Topic → Topic → Event → Version → List ℕ → List ℕ → Option (List ℕ) → Option (List ℕ) → Type 0
TakesEvent result topic topic_after event version held held_after old new =
    (subject : Subject) → StandsForSubject topic subject
    → (missed : Bool) × (missed ≡ true → takes_it_with_memory event subject ≡ true)
    × Puts result held held_after old new (if missed then reply_line (Refused words.Memory) else event_written version subject event)
    × StandsForSubject topic_after (if missed then subject else taking subject event)

-- the same of the topic at a place of several
abbrev pub TakesAt : Result Told WriteFault → List Topic → List Topic → ℕ → Topic → Event → Version → List ℕ → List ℕ → Option (List ℕ) → Option (List ℕ) → Type 0
TakesAt result topics topics_after place d event version held held_after old new =
    (subject : Subject) → StandsForSubject (slice_index_or topics place d) subject
    → (missed : Bool) × (missed ≡ true → takes_it_with_memory event subject ≡ true)
    × Puts result held held_after old new (if missed then reply_line (Refused words.Memory) else event_written version subject event)
    × (topic_after : Topic) × (topics_after ≡ slice_set topics place topic_after) × StandsForSubject topic_after (if missed then subject else taking subject event)
