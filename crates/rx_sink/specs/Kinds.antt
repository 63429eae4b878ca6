-- What the calls of the sinks of this crate do (this project's own rule).
--
-- Memory sinks: what is left of a `MemorySink` that was empty when it came is the list of the notes that it took.
--
-- Line sinks: what a `LineSink` wrote is the line of its start and the lines of the notes that it took, in its version, after
-- a fault followed by a front of the next line; what is left of it tells how many it took and whether it had a fault.
--
-- How a line sink stands: over a writer that gathers what it is given, a take answers Stuck where the sink was found stuck
-- and not yet found free again, or where more than 48 lines were written since nothing waited, this one counted, and else
-- Ready behind each eighth of them, and Held behind the others; more than 160 it is where the last flush found that nothing waits,
-- the one before did not find it stuck, and each line since has a text of at most 56 bytes. A flush that finds that nothing waits
-- begins the count anew and answers Clear, and one that finds the sink stuck leaves the count. Over any other writer both answer
-- Clear (`flow_behind`, `FlushLeaves` and `line_acts`)
use Rattle.std.specs.Prelude.{◌≡◌, ◌+◌, ◌-◌, ◌^◌, ◌%◌, ◌==◌, ◌<◌, ◌≤◌, ◌↔◌, ◌⊎◌, ◌&&◌, ◌||◌, not, if◌then◌else◌, min, nat_le, nat_lt, IsTrue, ℕ, Bool, true, false, List, [], ◌∷◌, ◌++◌, Option, Some, None, length, vec_len, vec_capacity}
use Rattle.std.specs.Io.KnownBytes.{Appends}
use Rattle.std.specs.declared.alloc.Global.{Global}
use Rattle.std.specs.declared.vec.Vec.{Vec}
use Rattle.rx_heap.specs.declared.limited.Limited.{Limited}
use Rattle.rx_note.specs.declared.note.Note.{Note}
use Rattle.rx_note.specs.declared.note.Note.TheVariants.{Completed, Failed, Next}
use Rattle.rx_proto.specs.Bytes.{AppendsPrefix}
use Rattle.rx_proto.specs.Printing.{joined_line, note_line}
use Rattle.rx_sink.specs.declared.flow.Flow.{Flow}
use Rattle.rx_sink.specs.declared.flow.Flow.TheVariants.{Clear, Ready, Stuck, Held}
use Rattle.rx_sink.specs.declared.line_rest.LineRest.{LineRest}
use Rattle.rx_sink.specs.declared.line_sink.LineSink.{LineSink}
use Rattle.rx_sink.specs.declared.memory_sink.MemorySink.{MemorySink}
use Rattle.rx_sink.specs.Acts.{Acts, raised}

-- a sink in memory that fails from a note on fails at the note of this number
abbrev pub fails_at : Option ℕ → ℕ → Bool
fails_at None number = false
fails_at (Some first) number = nat_le first number

-- a sink in memory puts each note behind the others; it has a fault at a note at which it is to fail, and where its list was
-- full, and then keeps its notes; nothing ever waits in it, and no flush of it is a fault
abbrev pub memory_acts : Acts MemorySink (Vec Note (Limited Global))
memory_acts = record {
  started = λ s who t. t ≡ s;
  start_faulted = λ s who t. ⊥;
  took = λ s note flow t. (flow ≡ Clear) × (t.notes.items ≡ s.notes.items ++ note ∷ []) × (t.fail_at ≡ s.fail_at) × (t.faults ≡ s.faults) × (fails_at s.fail_at (vec_len s.notes) ≡ false);
  take_faulted = λ s note t. (t.notes.items ≡ s.notes.items) × (t.fail_at ≡ s.fail_at) × (t.faults ≡ raised s.faults)
      × ((fails_at s.fail_at (vec_len s.notes) ≡ true) ⊎ (vec_capacity s.notes ≤ vec_len s.notes));
  flushed = λ s flow t. (flow ≡ Clear) × (t ≡ s);
  flush_faulted = λ s t. ⊥;
  finished = λ s rest. rest.items ≡ s.notes.items;
  faults = λ s. s.faults;
}

-- how many lines a writer that gathers may hold, and its sink is served more at once: by whether lines may be far ahead
abbrev pub most_ahead : Bool → ℕ
most_ahead false = 48
most_ahead true = 160

-- whether the text of a note is short
abbrev pub has_short_text : Note → Bool
has_short_text (Next item) = nat_le (length item.text) 56
has_short_text Completed = true
has_short_text (Failed text) = nat_le (length text) 56

-- how many lines were written since nothing waited, with one more, up to the greatest `u32`: they are counted where the writer
-- gathers what it is given
abbrev pub ahead_with_one : Bool → ℕ → ℕ
ahead_with_one false ahead = ahead
ahead_with_one true ahead = min (ahead + 1) (2 ^ 32 - 1)

-- behind so many lines items are asked for in their place
abbrev pub together : ℕ
together = 8

-- how a sink stands behind a line: by whether its writer gathers, whether a flush found it stuck, whether lines may be far ahead, and
-- how many were written since nothing waited
abbrev pub flow_behind : Bool → Bool → Bool → ℕ → Flow
flow_behind false stuck far ahead = Clear
flow_behind true stuck far ahead = if stuck || nat_lt (most_ahead far) ahead then Stuck else (if ahead % together == 0 then Ready else Held)

-- what a flush leaves: where nothing waits any more, the lines are counted anew, and may be far ahead from then on unless the sink was
-- found stuck before; only over a writer that gathers it finds the sink stuck, which then stays so until a flush finds that nothing waits
abbrev pub FlushLeaves : {W : Type 0} → Flow → LineSink W → LineSink W → Type 0
FlushLeaves Clear s t = (t.ahead ≡ 0) × (t.stuck ≡ false) × (t.far ≡ not s.stuck)
FlushLeaves Ready s t = ⊥
FlushLeaves Stuck s t = (s.gathers ≡ true) × (t.ahead ≡ s.ahead) × (t.stuck ≡ true) × (t.far ≡ false)
FlushLeaves Held s t = ⊥

-- a sink over a writer writes each line in its version, or a front of it at a fault, and counts the notes that it took; a flush
-- writes nothing more. Nothing ever waits in it, unless its writer gathers what it is given
abbrev pub line_acts : {W : Type 0} → (W → Option (List ℕ)) → Acts (LineSink W) LineRest
line_acts contents = record {
  started = λ s who t. Appends (contents s.writer) (contents t.writer) (joined_line who) × (t.notes ≡ s.notes) × (t.faults ≡ s.faults) × (t.gathers ≡ s.gathers)
      × (t.version ≡ s.version) × (t.ahead ≡ s.ahead) × (t.stuck ≡ s.stuck) × (t.far ≡ s.far);
  start_faulted = λ s who t. AppendsPrefix (contents s.writer) (contents t.writer) (joined_line who) × (t.notes ≡ s.notes) × (t.faults ≡ raised s.faults);
  took = λ s note flow t. (flow ≡ flow_behind s.gathers s.stuck t.far t.ahead) × Appends (contents s.writer) (contents t.writer) (note_line s.version note) × (t.notes ≡ raised s.notes)
      × (t.faults ≡ s.faults) × (t.gathers ≡ s.gathers) × (t.version ≡ s.version) × (t.ahead ≡ ahead_with_one s.gathers s.ahead) × (t.stuck ≡ s.stuck)
      × (t.far ≡ (s.far && has_short_text note));
  take_faulted = λ s note t. AppendsPrefix (contents s.writer) (contents t.writer) (note_line s.version note) × (t.notes ≡ s.notes) × (t.faults ≡ raised s.faults);
  flushed = λ s flow t. FlushLeaves flow s t × Appends (contents s.writer) (contents t.writer) [] × (t.notes ≡ s.notes) × (t.faults ≡ s.faults) × (t.gathers ≡ s.gathers)
      × (t.version ≡ s.version);
  flush_faulted = λ s t. Appends (contents s.writer) (contents t.writer) [] × (t.notes ≡ s.notes) × (t.faults ≡ raised s.faults);
  finished = λ s rest. (rest.notes ≡ s.notes) × (IsTrue rest.failed ↔ (0 < s.faults));
  faults = λ s. s.faults;
}
