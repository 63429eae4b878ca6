-- Who asks for items in the place of those that an event sink took (this project's own rule).
--
-- By its socket's credit the drainer does, as they go out. A reader that asks itself is owed its first window and then just what it asks
-- for: from the first item on that is told to it, and up to an end, its sink holds back what is due. What comes before that is known to it
-- already, is passed over, and is asked for again at once: so a reader that comes again gets to what it does not know.
use Rattle.std.specs.Prelude.{Bool, true, false, ◌||◌}
use Rattle.rx_note.specs.declared.note.Note.{Note}
use Rattle.rx_note.specs.declared.note.Note.TheVariants.{Next, Completed, Failed}
use Rattle.rx_sink.specs.declared.flow.Flow.{Flow}
use Rattle.rx_sink.specs.declared.flow.Flow.TheVariants.{Clear, Ready, Stuck, Held}
use Rattle.rx_events.specs.declared.asker.Asker.{Asker}
use Rattle.rx_events.specs.declared.asker.Asker.TheVariants.{Drainer, Reader}

-- who asks once a note was taken, which was told or passed over
abbrev pub asker_after : Asker → Note → Bool → Asker
asker_after Drainer note is_told = Drainer
asker_after (Reader told) (Next item) is_told = Reader (told || is_told)
asker_after (Reader told) Completed is_told = Reader false
asker_after (Reader told) (Failed text) is_told = Reader false

-- whether what is due is held back
abbrev pub holds : Asker → Bool
holds Drainer = false
holds (Reader told) = told

-- whether it is the reader who asks
abbrev pub is_reader : Asker → Bool
is_reader Drainer = false
is_reader (Reader told) = true

-- how a sink stands by which what is due is held back, or not
abbrev pub held_by : Bool → Flow → Flow
held_by false flow = flow
held_by true Clear = Held
held_by true Ready = Stuck
held_by true Stuck = Stuck
held_by true Held = Held
