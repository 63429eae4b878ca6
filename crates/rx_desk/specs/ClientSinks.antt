-- What a sink does that tells its notes as lines or as events: what its kind does, and it stays of that kind (this project's own
-- rule).
use Rattle.std.specs.Prelude.{◌≡◌, ℕ, List, Option}
use Rattle.rx_events.specs.Sinks.{event_acts}
use Rattle.rx_events.specs.declared.event_sink.EventSink.{EventSink}
use Rattle.rx_sink.specs.Acts.{Acts}
use Rattle.rx_sink.specs.Kinds.{line_acts}
use Rattle.rx_sink.specs.declared.line_rest.LineRest.{LineRest}
use Rattle.rx_sink.specs.declared.line_sink.LineSink.{LineSink}
use Rattle.rx_desk.specs.declared.client_sink.ClientSink.{ClientSink}
use Rattle.rx_desk.specs.declared.client_sink.ClientSink.TheVariants.{Lines, Events}

module _ {W : Type 0} where
  -- the writer by which a sink tells its notes
  abbrev pub writer_of : ClientSink W → W
  writer_of (Lines sink) = sink.writer
  writer_of (Events sink) = sink.value.writer

  -- it tells them as events, as this sink does
  abbrev pub IsEvents : EventSink W → ClientSink W → Type 0
  IsEvents told (Lines sink) = ⊥
  IsEvents told (Events sink) = sink.value ≡ told

  -- of a sink is so what its kind says
  abbrev pub By : (LineSink W → Type 0) → (EventSink W → Type 0) → ClientSink W → Type 0
  By P Q (Lines sink) = P sink
  By P Q (Events sink) = Q sink.value

  -- both are of one kind, and stand in the relation of that kind
  abbrev pub Alike : (LineSink W → LineSink W → Type 0) → (EventSink W → EventSink W → Type 0) → ClientSink W → ClientSink W → Type 0
  Alike P Q (Lines s) t = By (P s) (λ _. ⊥) t
  Alike P Q (Events s) t = By (λ _. ⊥) (Q s.value) t

  -- how many faults the one had that it is
  abbrev pub faults_of : (LineSink W → ℕ) → (EventSink W → ℕ) → ClientSink W → ℕ
  faults_of f g (Lines sink) = f sink
  faults_of f g (Events sink) = g sink.value

  -- what the calls do, by what those of both kinds do
  abbrev pub acts_by : Acts (LineSink W) LineRest → Acts (EventSink W) LineRest → Acts (ClientSink W) LineRest
  acts_by p q = record {
    started = λ s who t. Alike (λ a b. p.started a who b) (λ a b. q.started a who b) s t;
    start_faulted = λ s who t. Alike (λ a b. p.start_faulted a who b) (λ a b. q.start_faulted a who b) s t;
    took = λ s note flow t. Alike (λ a b. p.took a note flow b) (λ a b. q.took a note flow b) s t;
    take_faulted = λ s note t. Alike (λ a b. p.take_faulted a note b) (λ a b. q.take_faulted a note b) s t;
    flushed = λ s flow t. Alike (λ a b. p.flushed a flow b) (λ a b. q.flushed a flow b) s t;
    flush_faulted = λ s t. Alike p.flush_faulted q.flush_faulted s t;
    finished = λ s rest. By (λ a. p.finished a rest) (λ a. q.finished a rest) s;
    faults = λ s. faults_of p.faults q.faults s;
  }

  -- what the calls do of a sink over a writer
  abbrev pub client_acts : (W → Option (List ℕ)) → Acts (ClientSink W) LineRest
  client_acts contents = acts_by (line_acts contents) (event_acts contents)
