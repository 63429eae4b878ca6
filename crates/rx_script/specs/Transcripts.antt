-- What is written for the lines of a script. A script is told by the histories of its subjects: each line is answered,
-- and gives, what the definitions say of the history of the subject that it names. Its events come at the moment, and notes
-- are printed in the version, that a line set last. The rules are this project's own.
--
-- A mark for want of memory counts only where memory may be taken: at a text of a subject that there is, whatever its length,
-- or at an event that its subject accepts. So the transcript can't be met by refusing lines at will.
use Rattle.std.specs.Prelude.{ℕ, ◌&&◌, ◌||◌, Bool, true, false, if◌then◌else◌, List, [], ◌∷◌, ◌++◌, Option, None, Some, Result, Ok, Err, is_ok}
use Rattle.std.specs.List.{flat_map}
use Rattle.std.specs.Option.{option_map_or}
use Rattle.rx_note.specs.declared.event.Event.{Event}
use Rattle.rx_note.specs.declared.event.Event.TheVariants as events
use Rattle.rx_note.specs.declared.note.Note.TheVariants.{Next, Completed, Failed}
use Rattle.rx_note.specs.declared.rules.Rules.{Rules}
use Rattle.rx_note.specs.declared.given.Given.{Given}
use Rattle.rx_hub.specs.Hubs as hubs
use Rattle.rx_history.specs.Histories.{History, ◌▹◌, answer, outs}
use Rattle.rx_script.specs.declared.asked.Asked.{Asked}
use Rattle.rx_script.specs.declared.asked.Asked.TheVariants as asked
use Rattle.rx_proto.specs.declared.response.Response.{Response}
use Rattle.rx_proto.specs.declared.response.Response.TheVariants as responses
use Rattle.rx_proto.specs.declared.word.Word.TheVariants as words
use Rattle.rx_proto.specs.declared.command.Command.TheVariants.{Pub, End, Fail, Sub, Hello, Quit}
use Rattle.rx_proto.specs.declared.version.Version.{Version}
use Rattle.rx_proto.specs.declared.version.Version.TheVariants.{One}
use Rattle.rx_proto.specs.declared.script_line.ScriptLine.{ScriptLine}
use Rattle.rx_proto.specs.declared.script_line.ScriptLine.TheVariants.{Command, At, Join, Request, Dispose}
use Rattle.rx_proto.specs.declared.line_error.BadLine.{BadLine}
use Rattle.rx_proto.specs.declared.line_error.BadLine.TheVariants.{Long, Syntax}
use Rattle.rx_proto.specs.Printing.{reply_line}
use Rattle.rx_script.specs.Printing.{given_line}
use Rattle.rx_proto.specs.Reading.{script_read, same_word}
use Rattle.rx_proto.specs.Versions.{response_to_hello, version_after}
use Rattle.rx_session.specs.Responses.{response_to}

-- a subject of a script: its name, its rules and the history that the lines so far have made
pub record Subject : Type 0 where
  pub name : List ℕ
  pub rules : Rules
  pub history : History

-- what a script has come to: its subjects, and the moment of the events that follow, in milliseconds, and the version in which
-- the notes that follow are printed
pub record State : Type 0 where
  pub subjects : List Subject
  pub moment : ℕ
  pub version : Version

-- at first the moment is 0, and the version the first
abbrev pub new_state : List Subject → State
new_state subjects = record { subjects = subjects; moment = 0; version = One }

-- WHAT A LINE ASKS

-- what a line asks at a moment, at which its event comes; a SUB, which no script has, would join with a request for none
abbrev pub asked_at : ℕ → ScriptLine → Asked
asked_at moment (Command (Pub name text)) = asked.Event name (events.Emit (Next (record { from = 0; place = 0; text = text })) moment)
asked_at moment (Command (End name)) = asked.Event name (events.Emit Completed moment)
asked_at moment (Command (Fail name text)) = asked.Event name (events.Emit (Failed text) moment)
asked_at moment (Command (Sub name policy)) = asked.Event name (events.Join policy 0 moment)
asked_at moment (Command (Hello number)) = asked.Hello number
asked_at moment (Command Quit) = asked.Quit
asked_at moment (At next) = asked.At next
asked_at moment (Join name policy first) = asked.Event name (events.Join policy first moment)
asked_at moment (Request name who n) = asked.Event name (events.Request who n)
asked_at moment (Dispose name who) = asked.Event name (events.Dispose who)

-- whether an event has a text, for which it takes memory
abbrev pub has_text : Event → Bool
has_text (events.Emit (Next item) at) = true
has_text (events.Emit Completed at) = false
has_text (events.Emit (Failed text) at) = true
has_text (events.Join policy first at) = false
has_text (events.Request who n) = false
has_text (events.Dispose who) = false

-- THE ANSWERS

-- the response to a line without a meaning
abbrev pub response_to_fault : BadLine → Response
response_to_fault Long = responses.Refused words.Long
response_to_fault Syntax = responses.Refused words.Syntax

-- the lines of the notes given
abbrev pub given_lines : Version → List ℕ → List Given → List ℕ
given_lines version name given = flat_map (λ g. given_line version name g.who g.note) given

-- WHAT AN EVENT DOES

-- the first subject of a name
abbrev pub subject_of : List Subject → List ℕ → Option Subject
subject_of [] name = None
subject_of (subject ∷ subjects) name = if same_word subject.name name then Some subject else subject_of subjects name

-- the subject takes an event, from port 0
abbrev pub taking : Subject → Event → Subject
taking subject event = record subject { history = subject.history ▹ (0, event) }

-- the first subject of a name takes an event
abbrev pub all_taking : List Subject → List ℕ → Event → List Subject
all_taking [] name event = []
all_taking (subject ∷ subjects) name event =
    if same_word subject.name name then taking subject event ∷ subjects else subject ∷ all_taking subjects name event

-- what is written for an event: its answer, and a line for each note that it gives
abbrev pub event_written : Version → Subject → Event → List ℕ
event_written version subject event =
    reply_line (response_to (answer subject.rules subject.history event))
    ++ given_lines version subject.name (outs subject.rules subject.history (0, event))

-- whether the subject accepts an event, and memory is taken for it
abbrev pub takes_it_with_memory : Event → Subject → Bool
takes_it_with_memory event subject = hubs.takes_memory event && is_ok (answer subject.rules subject.history event)

-- WHAT A LINE DOES

-- whether memory is taken for an event of a subject: for its text, or for what the subject does
abbrev pub wants_memory_for : Event → Subject → Bool
wants_memory_for event subject = has_text event || takes_it_with_memory event subject

-- whether memory is taken for what a line asks; none is for an event of a subject that nobody knows
abbrev pub wants_memory : List Subject → Asked → Bool
wants_memory subjects (asked.Event name event) = option_map_or (wants_memory_for event) (subject_of subjects name) false
wants_memory subjects (asked.At moment) = false
wants_memory subjects (asked.Hello number) = false
wants_memory subjects asked.Quit = false

-- whether what a line asks is the end
abbrev pub is_quit : Asked → Bool
is_quit (asked.Event name event) = false
is_quit (asked.At moment) = false
is_quit (asked.Hello number) = false
is_quit asked.Quit = true

-- whether a line met want of memory; only one that takes memory can
abbrev pub misses : State → ScriptLine → Bool → Bool
misses state line missed = missed && wants_memory state.subjects (asked_at state.moment line)

-- what is written for what a line asks
abbrev pub asked_written : State → Asked → List ℕ
asked_written state (asked.Event name event) =
    option_map_or (λ subject. event_written state.version subject event) (subject_of state.subjects name) (reply_line (responses.Refused words.Subject))
asked_written state (asked.At moment) = reply_line responses.Done
asked_written state (asked.Hello number) = reply_line (response_to_hello number)
asked_written state asked.Quit = reply_line responses.Done

-- what is written for a line; one that met want of memory counts as never sent
abbrev pub line_written : State → Result ScriptLine BadLine → Bool → List ℕ
line_written state (Err fault) missed = reply_line (response_to_fault fault)
line_written state (Ok line) missed =
    if misses state line missed then reply_line (responses.Refused words.Memory) else asked_written state (asked_at state.moment line)

-- the state after what a line asks: a subject has taken the event, or the moment or the version is another
abbrev pub after_asked : State → Asked → State
after_asked state (asked.Event name event) = record state { subjects = all_taking state.subjects name event }
after_asked state (asked.At moment) = record state { moment = moment }
after_asked state (asked.Hello number) = record state { version = version_after state.version number }
after_asked state asked.Quit = state

-- the state after a line
abbrev pub after_line : State → Result ScriptLine BadLine → Bool → State
after_line state (Err fault) missed = state
after_line state (Ok line) missed = if misses state line missed then state else after_asked state (asked_at state.moment line)

-- whether a line ends the script
abbrev pub ends_script : Result ScriptLine BadLine → Bool
ends_script (Ok (Command Quit)) = true
ends_script _ = false

-- THE TRANSCRIPT

-- the first mark, and the marks behind it; marks that run out are false
abbrev pub first_mark : List Bool → Bool
first_mark [] = false
first_mark (mark ∷ marks) = mark

abbrev pub later_marks : List Bool → List Bool
later_marks [] = []
later_marks (mark ∷ marks) = marks

-- what is written for the lines of a script, up to and with the first that ends it; a mark says of each whether it met
-- want of memory
abbrev pub transcript : State → List Bool → List (List ℕ) → List ℕ
transcript state marks [] = []
transcript state marks (line ∷ lines) =
    line_written state (script_read line) (first_mark marks)
    ++ (if ends_script (script_read line) then [] else transcript (after_line state (script_read line) (first_mark marks)) (later_marks marks) lines)

-- whether one of the lines ends the script
abbrev pub has_end : List (List ℕ) → Bool
has_end [] = false
has_end (line ∷ lines) = if ends_script (script_read line) then true else has_end lines
