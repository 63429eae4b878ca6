-- What event sinks have written, note by note, and the heartbeats between them.
use Rattle.std.proofs.Common.{◌≡◌, ◌∙◌, sym, refl, ap, subst, ℕ, List, [], ◌∷◌, ◌++◌, append_assoc, append-nil, inl, inr, Option}
use Rattle.std.proofs.KnownBytes.{Appends-nil, Appends-trans}
use Rattle.std.specs.List.{FoldsTo}
use Rattle.std.specs.Io.KnownBytes.{Appends}
use Rattle.rx_note.specs.declared.note.Note.{Note}
use Rattle.rx_http.specs.Answers.{answer_bytes}
use Rattle.rx_http.specs.Laws.{Event, Heartbeat, Piece, Retry, piece_bytes, stream_of}
use Rattle.rx_http.specs.Pieces.{heartbeat_line}
use Rattle.rx_http.specs.declared.answer.Answer.TheVariants.{Events}
use Rattle.rx_http.specs.declared.stream_event.StreamEvent.{StreamEvent}
use Rattle.rx_sink.specs.Acts.{Step, Takes, Flushes, notes_by, Makes, Took}
use Rattle.rx_sink.specs.Attachments.{Attachment, TookLast, Detached, Closed, FailedAtStart, FailedAt, FailedAtFlush}
use Rattle.rx_events.specs.Sinks.{Beats, event_acts}
use Rattle.rx_events.specs.Telling.{begin_events, begin_pieces, note_events, notes_events, pieces_of, standing_after, standing_last, told_bytes}
use Rattle.rx_events.specs.Written.{WritesEvents, WroteStream, next_bytes, sink_pieces, without_heartbeats}
use Rattle.rx_events.specs.declared.event_sink.EventSink.{EventSink}
use Rattle.rx_events.specs.declared.standing.Standing.{Standing}

-- the pieces of some events and of more
pub pieces-append : (events more : List StreamEvent) → pieces_of (events ++ more) ≡ pieces_of events ++ pieces_of more
pieces-append [] more = refl
pieces-append (event ∷ events) more = ap (λ l. Event event ∷ l) (pieces-append events more)

-- the bytes of some pieces and of more
stream-append : (epoch : List ℕ) (pieces more : List Piece) → stream_of epoch (pieces ++ more) ≡ stream_of epoch pieces ++ stream_of epoch more
stream-append epoch [] more = refl
stream-append epoch (piece ∷ pieces) more =
    ap (λ l. piece_bytes epoch piece ++ l) (stream-append epoch pieces more)
    ∙ sym (append_assoc (piece_bytes epoch piece) (stream_of epoch pieces) (stream_of epoch more))

-- no heartbeat is among the pieces of events
without-events : (events : List StreamEvent) (more : List Piece) → without_heartbeats (pieces_of events ++ more) ≡ pieces_of events ++ without_heartbeats more
without-events [] more = refl
without-events (event ∷ events) more = ap (λ l. Event event ∷ l) (without-events events more)

module _ {W : Type 0} (contents : W → Option (List ℕ)) where
  -- a sink of this epoch, to a reader that stands so, wrote some notes with heartbeats between them, and stands behind them
  record WroteOn (epoch : List ℕ) (standing : Standing) (s : EventSink W) (notes : List Note) (t : EventSink W) : Type 0 where
    beaten : List Piece
    are : without_heartbeats beaten ≡ pieces_of (notes_events standing notes)
    told : Appends (contents s.writer) (contents t.writer) (stream_of epoch beaten)
    epoch_is : t.epoch ≡ epoch
    stands : t.standing ≡ standing_last standing notes

  -- one more note before those
  wrote-more : (epoch : List ℕ) (standing : Standing) (s mid t : EventSink W) (note : Note) (notes : List Note)
      → Appends (contents s.writer) (contents mid.writer) (told_bytes epoch (note_events standing note))
      → WroteOn epoch (standing_after standing note) mid notes t → WroteOn epoch standing s (note ∷ notes) t
  wrote-more epoch standing s mid t note notes one more =
      let first = note_events standing note in
      let rest = notes_events (standing_after standing note) notes in
      record {
        beaten = pieces_of first ++ more.beaten;
        are = without-events first more.beaten ∙ ap (λ l. pieces_of first ++ l) more.are ∙ sym (pieces-append first rest);
        told = subst (λ (bytes : List ℕ). Appends (contents s.writer) (contents t.writer) bytes) (sym (stream-append epoch (pieces_of first) more.beaten))
            (Appends-trans (contents s.writer) (contents mid.writer) (contents t.writer) (told_bytes epoch first) (stream_of epoch more.beaten) one more.told);
        epoch_is = more.epoch_is;
        stands = more.stands;
      }

  -- a flush before those, with a heartbeat or without
  wrote-behind : (epoch : List ℕ) (standing : Standing) (s mid t : EventSink W) (notes : List Note)
      → Beats (contents s.writer) (contents mid.writer) → WroteOn epoch standing mid notes t → WroteOn epoch standing s notes t
  wrote-behind epoch standing s mid t notes (inl none) more = record {
    beaten = more.beaten;
    are = more.are;
    told = Appends-trans (contents s.writer) (contents mid.writer) (contents t.writer) [] (stream_of epoch more.beaten) none more.told;
    epoch_is = more.epoch_is;
    stands = more.stands;
  }
  wrote-behind epoch standing s mid t notes (inr beat) more = record {
    beaten = Heartbeat ∷ more.beaten;
    are = more.are;
    told = Appends-trans (contents s.writer) (contents mid.writer) (contents t.writer) heartbeat_line (stream_of epoch more.beaten) beat more.told;
    epoch_is = more.epoch_is;
    stands = more.stands;
  }

  makes_write : (epoch : List ℕ) (standing : Standing) (s : EventSink W) (steps : List Step) (t : EventSink W) → s.epoch ≡ epoch → s.standing ≡ standing
      → FoldsTo (Makes (event_acts contents)) s steps t → WroteOn epoch standing s (notes_by steps) t
  makes_write epoch standing s [] t by at made = record {
    beaten = [];
    are = refl;
    told = subst (λ (u : EventSink W). Appends (contents s.writer) (contents u.writer) []) made (Appends-nil (contents s.writer));
    epoch_is = ap (λ (u : EventSink W). u.epoch) (sym made) ∙ by;
    stands = ap (λ (u : EventSink W). u.standing) (sym made) ∙ at;
  }
  makes_write epoch standing s (Takes note flow ∷ steps) t by at made =
      let mid = made.0 in
      let is = made.1 in
      let one : Appends (contents s.writer) (contents mid.writer) (told_bytes epoch (note_events standing note)) =
      subst (λ (e : List ℕ). Appends (contents s.writer) (contents mid.writer) (told_bytes e (note_events standing note))) by
      (subst (λ (r : Standing). Appends (contents s.writer) (contents mid.writer) (told_bytes s.epoch (note_events r note))) at is.1) in
      wrote-more epoch standing s mid t note (notes_by steps) one
      (makes_write epoch (standing_after standing note) mid steps t (is.2.epoch ∙ by) (is.3 ∙ ap (λ r. standing_after r note) at) made.2)
  makes_write epoch standing s (Flushes flow ∷ steps) t by at made =
      let mid = made.0 in
      let is = made.1 in
      wrote-behind epoch standing s mid t (notes_by steps) is.1 (makes_write epoch standing mid steps t (is.2.epoch ∙ by) (is.3 ∙ at) made.2)

  -- a sink that was started and took some notes
  record TookOn (s : EventSink W) (who : ℕ) (notes : List Note) (t : EventSink W) : Type 0 where
    beaten : List Piece
    are : without_heartbeats beaten ≡ sink_pieces s who notes
    told : Appends (contents s.writer) (contents t.writer) (answer_bytes Events ++ stream_of s.epoch beaten)
    epoch_is : t.epoch ≡ s.epoch
    stands : t.standing ≡ standing_last s.standing notes

  took_write : (s : EventSink W) (who : ℕ) (notes : List Note) (step : Option Step) (t : EventSink W) → Took (event_acts contents) s who notes step t → TookOn s who notes t
  took_write s who notes step t took =
      let mid = took.begun in
      let begun = took.start in
      let more = makes_write s.epoch s.standing mid took.steps t begun.1.epoch begun.2 took.made in
      let P : List Note → Type 0 = λ l. TookOn s who l t in
      let head = answer_bytes Events in
      let first = begin_pieces s.begin s.standing.known who in
      let events = begin_events s.begin s.standing.known who in
      subst P took.notes_are (record {
        beaten = first ++ more.beaten;
        are = ap (λ l. Retry 1000 ∷ l) (without-events events more.beaten ∙ ap (λ l. pieces_of events ++ l) more.are);
        told = subst (λ (bytes : List ℕ). Appends (contents s.writer) (contents t.writer) bytes)
            (append_assoc head (stream_of s.epoch first) (stream_of s.epoch more.beaten) ∙ ap (λ l. head ++ l) (sym (stream-append s.epoch first more.beaten)))
            (Appends-trans (contents s.writer) (contents mid.writer) (contents t.writer) (head ++ stream_of s.epoch first) (stream_of s.epoch more.beaten) begun.0 more.told);
        epoch_is = more.epoch_is;
        stands = more.stands;
      })

  -- such a sink, and nothing of what comes next
  all_write : (a : Attachment (EventSink W)) (last : EventSink W) → Took (event_acts contents) a.sink a.who a.taken a.last last
      → WroteStream a (contents a.sink.writer) (contents last.writer) []
  all_write a last took =
      let on = took_write a.sink a.who a.taken a.last last took in
      record {
        beaten = on.beaten;
        are = on.are;
        front = [];
        back = [];
        parts = refl;
        told = subst (λ (bytes : List ℕ). Appends (contents a.sink.writer) (contents last.writer) (answer_bytes Events ++ bytes)) (sym (append-nil (stream_of a.sink.epoch on.beaten))) on.told;
      }

  -- such a sink, and then a front of what comes next
  part_write : (a : Attachment (EventSink W)) (s last : EventSink W) (next front back : List ℕ) → Took (event_acts contents) a.sink a.who a.taken a.last s
      → front ++ back ≡ next → Appends (contents s.writer) (contents last.writer) front → WroteStream a (contents a.sink.writer) (contents last.writer) next
  part_write a s last next front back took parts told =
      let on = took_write a.sink a.who a.taken a.last s took in
      let head = answer_bytes Events in
      record {
        beaten = on.beaten;
        are = on.are;
        front = front;
        back = back;
        parts = parts;
        told = subst (λ (bytes : List ℕ). Appends (contents a.sink.writer) (contents last.writer) bytes) (append_assoc head (stream_of a.sink.epoch on.beaten) front)
            (Appends-trans (contents a.sink.writer) (contents s.writer) (contents last.writer) (head ++ stream_of a.sink.epoch on.beaten) front on.told told);
      }

  pub writes_events : WritesEvents (event_acts contents) contents
  writes_events a TookLast last was = all_write a last was
  writes_events a Detached last was = all_write a last was
  writes_events a Closed last was = all_write a last was
  writes_events a FailedAtStart last was =
      let part = was.1.0 in
      record { front = part.front; back = part.back; parts = part.parts; told = part.told }
  writes_events a (FailedAt note) last was =
      let s = was.0 in
      let took = took_write a.sink a.who a.taken a.last s was.1 in
      let part = was.2.0 in
      let next : told_bytes s.epoch (note_events s.standing note) ≡ next_bytes a.sink a.taken note =
      ap (λ e. told_bytes e (note_events s.standing note)) took.epoch_is ∙ ap (λ r. told_bytes a.sink.epoch (note_events r note)) took.stands in
      part_write a s last (next_bytes a.sink a.taken note) part.front part.back was.1 (part.parts ∙ next) part.told
  writes_events a FailedAtFlush last was =
      let part = was.2.0 in
      part_write a was.0 last heartbeat_line part.front part.back was.1 part.parts part.told
