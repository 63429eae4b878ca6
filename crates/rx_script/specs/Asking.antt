-- What is taken of a line of a script: first the name of its subject, and then its event, whose text is made last.
use Rattle.std.specs.Prelude.{◌≡◌, ℕ, Bool, true, false, List, Option, None, Some, Result, Ok, Err}
use Rattle.rx_heap.specs.declared.refused.Memory.{Memory}
use Rattle.rx_note.specs.declared.event.Event.{Event}
use Rattle.rx_proto.specs.declared.command.Command.TheVariants.{Hello, Quit}
use Rattle.rx_proto.specs.declared.script_line.ScriptLine.{ScriptLine}
use Rattle.rx_proto.specs.declared.script_line.ScriptLine.TheVariants.{Command, At}
use Rattle.rx_script.specs.declared.asked.Asked.{Asked}
use Rattle.rx_script.specs.declared.asked.Asked.TheVariants as asked
use Rattle.rx_script.specs.Transcripts.{has_text}

-- whether a line names a subject
abbrev pub names_subject : ScriptLine → Bool
names_subject (Command (Hello number)) = false
names_subject (Command Quit) = false
names_subject (At moment) = false
names_subject _ = true

-- the name of the subject for which an event is asked
abbrev pub name_asked : Asked → Option (List ℕ)
name_asked (asked.Event name event) = Some name
name_asked (asked.At moment) = None
name_asked (asked.Hello number) = None
name_asked asked.Quit = None

-- what was made is the event that is asked for; memory may be wanting only for a text
abbrev pub MakesEvent : Result Event Memory → Asked → Type 0
MakesEvent (Ok made) (asked.Event name event) = made ≡ event
MakesEvent (Err memory) (asked.Event name event) = has_text event ≡ true
MakesEvent made (asked.At moment) = ⊥
MakesEvent made (asked.Hello number) = ⊥
MakesEvent made asked.Quit = ⊥
