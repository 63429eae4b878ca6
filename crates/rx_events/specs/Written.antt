-- What the event sinks have written once they are put away (this project's own rule).
--
-- It is the head of an answer, and then the pieces of a stream: where its reader begins, and of each note the events by which that is told
-- to a reader that was told those before; with heartbeats between them, which tell it nothing; and after a fault a front of what was to
-- come next.
use Rattle.std.specs.Prelude.{◌≡◌, ℕ, List, [], ◌∷◌, ◌++◌, Option}
use Rattle.std.specs.Io.KnownBytes.{Appends}
use Rattle.rx_note.specs.declared.note.Note.{Note}
use Rattle.rx_http.specs.Answers.{answer_bytes}
use Rattle.rx_http.specs.Laws.{Event, Heartbeat, Piece, Retry, stream_of}
use Rattle.rx_http.specs.Pieces.{heartbeat_line}
use Rattle.rx_http.specs.declared.answer.Answer.TheVariants.{Events}
use Rattle.rx_sink.specs.Acts.{Acts}
use Rattle.rx_sink.specs.Attachments.{Attachment, Why, TookLast, Detached, Closed, FailedAtStart, FailedAt, FailedAtFlush}
use Rattle.rx_sink.specs.KeptSinks.{Last}
use Rattle.rx_sink.specs.Taken.{AppendsPart}
use Rattle.rx_events.specs.Telling.{begin_bytes, begin_pieces, note_events, notes_events, pieces_of, standing_last, told_bytes}
use Rattle.rx_events.specs.declared.event_sink.EventSink.{EventSink}

-- the pieces but the heartbeats
abbrev pub without_heartbeats : List Piece → List Piece
without_heartbeats [] = []
without_heartbeats (Event event ∷ pieces) = Event event ∷ without_heartbeats pieces
without_heartbeats (Retry ms ∷ pieces) = Retry ms ∷ without_heartbeats pieces
without_heartbeats (Heartbeat ∷ pieces) = without_heartbeats pieces

-- the bytes of a writer grow by the head of an answer and a stream of these pieces, with heartbeats between them, and by a front of what
-- comes next
pub record AppendsStream (old new : Option (List ℕ)) (epoch : List ℕ) (pieces : List Piece) (next : List ℕ) : Type 0 where
  pub beaten : List Piece
  pub are : without_heartbeats beaten ≡ pieces
  pub front : List ℕ
  pub back : List ℕ
  pub parts : front ++ back ≡ next
  pub told : Appends old new (answer_bytes Events ++ (stream_of epoch beaten ++ front))

module _ {W : Type 0} where
  -- the bytes with which a sink begins, as which observer
  abbrev pub first_bytes : EventSink W → ℕ → List ℕ
  first_bytes s who = begin_bytes s.epoch s.begin s.standing.known who

  -- the pieces of a begin and of the notes taken
  abbrev pub sink_pieces : EventSink W → ℕ → List Note → List Piece
  sink_pieces s who notes = begin_pieces s.begin s.standing.known who ++ pieces_of (notes_events s.standing notes)

  -- the bytes of the next note behind these
  abbrev pub next_bytes : EventSink W → List Note → Note → List ℕ
  next_bytes s notes note = told_bytes s.epoch (note_events (standing_last s.standing notes) note)

  -- the sink of an attachment wrote the stream of all notes that it took, and a front of what comes next
  abbrev pub WroteStream : Attachment (EventSink W) → Option (List ℕ) → Option (List ℕ) → List ℕ → Type 0
  WroteStream a old new next = AppendsStream old new a.sink.epoch (sink_pieces a.sink a.who a.taken) next

  -- the bytes that a sink wrote, by the reason why it was put away: how its reader begins and all notes that it took, or after a fault a
  -- front of what was to come next too: of a note, or at a flush of a heartbeat
  abbrev pub Wrote : Attachment (EventSink W) → Why → Option (List ℕ) → Option (List ℕ) → Type 0
  Wrote a TookLast old new = WroteStream a old new []
  Wrote a Detached old new = WroteStream a old new []
  Wrote a Closed old new = WroteStream a old new []
  Wrote a FailedAtStart old new = AppendsPart old new [] (first_bytes a.sink a.who)
  Wrote a (FailedAt note) old new = WroteStream a old new (next_bytes a.sink a.taken note)
  Wrote a FailedAtFlush old new = WroteStream a old new heartbeat_line

  -- a sink writes how its reader begins and the notes that it takes, each as it is told to a reader that was told those before
  abbrev pub WritesEvents : {Rest : Type 0} → Acts (EventSink W) Rest → (W → Option (List ℕ)) → Type 0
  WritesEvents acts contents =
      (a : Attachment (EventSink W)) (why : Why) (last : EventSink W) → Last acts a why last → Wrote a why (contents a.sink.writer) (contents last.writer)
