-- What the calls of an event sink do (this project's own rule).
--
-- An event sink: it writes the head of an answer and where its reader begins, and then of each note that it takes the events
-- by which that is told to a reader that was told those before: none of an item that it knows, which is taken like any other;
-- how many are missed before an item that isn't the next; an overflow without an id, where its observer may end by one. After
-- a fault it has written a front of that. Its rest tells how many notes it took, and whether it had a fault. Something waits
-- in it only where its writer gathers, and what it passed over isn't counted there. Where its reader asks for items itself it tells
-- that what is due is held back, from the first item on that it told to it up to an end.
--
-- By its tempo a flush may write a heartbeat before all else, which tells its reader nothing; and where its reader wants no more than an
-- item in a time, a sink whose writer gathers is stuck behind each item that it told, until a flush answers otherwise. When that is no
-- clause says.
use Rattle.std.specs.Prelude.{◌≡◌, ◌<◌, ◌↔◌, ◌⊎◌, ◌||◌, ◌&&◌, IsTrue, ℕ, Bool, true, false, if◌then◌else◌, List, [], Option, None, Some}
use Rattle.std.specs.Io.KnownBytes.{Appends}
use Rattle.rx_note.specs.declared.note.Note.{Note}
use Rattle.rx_note.specs.declared.note.Note.TheVariants.{Next, Completed, Failed}
use Rattle.rx_proto.specs.Bytes.{AppendsPrefix}
use Rattle.rx_http.specs.Pieces.{heartbeat_line}
use Rattle.rx_sink.specs.declared.flow.Flow.{Flow}
use Rattle.rx_sink.specs.declared.flow.Flow.TheVariants.{Clear, Ready, Stuck, Held}
use Rattle.rx_sink.specs.declared.line_rest.LineRest.{LineRest}
use Rattle.rx_sink.specs.Acts.{Acts, raised}
use Rattle.rx_sink.specs.Kinds.{ahead_with_one, flow_behind}
use Rattle.rx_events.specs.Asking.{asker_after, held_by, holds}
use Rattle.rx_events.specs.Telling.{begin_bytes, is_told, note_events, standing_after, told_bytes}
use Rattle.rx_events.specs.declared.event_sink.EventSink.{EventSink}

-- how many notes were written since nothing waited, with one more that was told; one that was passed over wasn't written
abbrev pub ahead_after : Bool → Bool → ℕ → ℕ
ahead_after told gathers ahead = if told then ahead_with_one gathers ahead else ahead

-- whether a sink keeps a pace, by its tempo
abbrev pub is_paced : Option Bool → Bool
is_paced None = false
is_paced (Some paced) = paced

-- whether a note is an item
abbrev pub is_item : Note → Bool
is_item (Next item) = true
is_item Completed = false
is_item (Failed text) = false

-- whether a sink is stuck once a note was told, or passed over: behind an item that it told it is where it keeps a pace
abbrev pub stuck_after : Bool → Option Bool → Bool → Note → Bool → Bool
stuck_after gathers tempo told note stuck = stuck || (gathers && is_paced tempo && told && is_item note)

-- the bytes of a writer stay, or grow by a heartbeat
abbrev pub Beats : Option (List ℕ) → Option (List ℕ) → Type 0
Beats old new = Appends old new [] ⊎ Appends old new heartbeat_line

-- what a flush leaves: where nothing waits any more, the notes are counted anew, and what is due is held back where the reader asks for
-- it; only over a writer that gathers it finds the sink stuck, by its socket or by its pace, which then stays so until a flush finds that
-- nothing waits
abbrev pub FlushLeaves : {W : Type 0} → Flow → EventSink W → EventSink W → Type 0
FlushLeaves Clear s t = (holds s.asker ≡ false) × (t.ahead ≡ 0) × (t.stuck ≡ false)
FlushLeaves Held s t = (holds s.asker ≡ true) × (t.ahead ≡ 0) × (t.stuck ≡ false)
FlushLeaves Ready s t = ⊥
FlushLeaves Stuck s t = (s.gathers ≡ true) × (t.ahead ≡ s.ahead) × (t.stuck ≡ true)

-- what stays of a sink through its calls: to whom it tells, and how
pub record Stays {W : Type 0} (s t : EventSink W) : Type 0 where
  pub epoch : t.epoch ≡ s.epoch
  pub begin : t.begin ≡ s.begin
  pub gathers : t.gathers ≡ s.gathers
  pub tempo : t.tempo ≡ s.tempo

-- a sink over a writer writes how its reader begins, and then each note as it is told to that reader, or a front of it at a fault, and
-- counts the notes that it took; a flush writes nothing more, but for a heartbeat. Nothing ever waits in it, unless its writer gathers what it is given
abbrev pub event_acts : {W : Type 0} → (W → Option (List ℕ)) → Acts (EventSink W) LineRest
event_acts contents = record {
  started = λ s who t. Appends (contents s.writer) (contents t.writer) (begin_bytes s.epoch s.begin s.standing.known who) × Stays s t × (t.standing ≡ s.standing)
      × (t.notes ≡ s.notes) × (t.faults ≡ s.faults) × (t.ahead ≡ s.ahead) × (t.stuck ≡ s.stuck) × (t.asker ≡ s.asker);
  start_faulted = λ s who t. AppendsPrefix (contents s.writer) (contents t.writer) (begin_bytes s.epoch s.begin s.standing.known who)
      × (t.notes ≡ s.notes) × (t.faults ≡ raised s.faults);
  took = λ s note flow t. (flow ≡ held_by (holds t.asker) (flow_behind s.gathers t.stuck false t.ahead)) × Appends (contents s.writer) (contents t.writer) (told_bytes s.epoch (note_events s.standing note))
      × Stays s t × (t.standing ≡ standing_after s.standing note) × (t.notes ≡ raised s.notes) × (t.faults ≡ s.faults)
      × (t.ahead ≡ ahead_after (is_told s.standing note) s.gathers s.ahead) × (t.stuck ≡ stuck_after s.gathers s.tempo (is_told s.standing note) note s.stuck) × (t.asker ≡ asker_after s.asker note (is_told s.standing note));
  take_faulted = λ s note t. AppendsPrefix (contents s.writer) (contents t.writer) (told_bytes s.epoch (note_events s.standing note))
      × (t.notes ≡ s.notes) × (t.faults ≡ raised s.faults);
  flushed = λ s flow t. FlushLeaves flow s t × Beats (contents s.writer) (contents t.writer) × Stays s t × (t.standing ≡ s.standing)
      × (t.notes ≡ s.notes) × (t.faults ≡ s.faults) × (t.asker ≡ s.asker);
  flush_faulted = λ s t. AppendsPrefix (contents s.writer) (contents t.writer) heartbeat_line × (t.notes ≡ s.notes) × (t.faults ≡ raised s.faults);
  finished = λ s rest. (rest.notes ≡ s.notes) × (IsTrue rest.failed ↔ (0 < s.faults));
  faults = λ s. s.faults;
}
