-- What the reader of an event sink hears, and that it comes again with the id of what it knows.
--
-- Its reader hears its subject: of the notes that it took, but an overflow, its reader hears just what is told to one that
-- knows what it said, or that asked from the first that came where it said nothing.
--
-- Its stream is an account: whatever heartbeats stand in it and wherever it is cut, its reader was told a front of the events, and comes
-- again with the id of what it knows by them.
use Rattle.std.specs.Prelude.{◌≡◌, ◌<◌, ◌^◌, ℕ, Bool, if◌then◌else◌, List, [], ◌∷◌, ◌++◌}
use Rattle.rx_note.specs.declared.note.Note.{Note}
use Rattle.rx_note.specs.declared.note.Note.TheVariants.{Next, Completed, Failed}
use Rattle.rx_proto.specs.LineFeeds.{HasNoLf}
use Rattle.rx_http.specs.Accounts.{ComesBehind, heard_by}
use Rattle.rx_http.specs.Epochs.{IsEpoch}
use Rattle.rx_http.specs.Laws.{IsPlace, Piece, Retry, stream_of}
use Rattle.rx_http.specs.Reading.{read, reader_with}
use Rattle.rx_http.specs.Resuming.{told}
use Rattle.rx_http.specs.declared.request.begin.Begin.{Begin}
use Rattle.rx_http.specs.declared.request.begin.Begin.TheVariants.{Fresh, Behind, Restarted}
use Rattle.rx_http.specs.declared.stream_event.StreamEvent.{StreamEvent}
use Rattle.rx_events.specs.Telling.{begin_events, begin_pieces, count_to, is_overflow, is_seed, notes_events, pieces_of, standing_at}
use Rattle.rx_events.specs.Written.{without_heartbeats}
use Rattle.rx_events.specs.declared.standing.Standing.{Standing}

-- the place of the first item that isn't a seed; 0 where there is none
abbrev pub first_place : List Note → ℕ
first_place [] = 0
first_place (Next item ∷ notes) = if is_seed item then first_place notes else item.place
first_place (Completed ∷ notes) = first_place notes
first_place (Failed text ∷ notes) = first_place notes

-- of how many items a reader knows what became that is told some notes: it asked for those behind what it knows, or where it said nothing
-- for those that come
abbrev pub known_before : Standing → List Note → ℕ
known_before standing notes = if standing.fresh then first_place notes else count_to standing.known

-- the notes but those that say that it overflowed: these tell nothing of its subject
abbrev pub of_subject : Bool → List Note → List Note
of_subject bounded [] = []
of_subject bounded (Next item ∷ notes) = Next item ∷ of_subject bounded notes
of_subject bounded (Completed ∷ notes) = Completed ∷ of_subject bounded notes
of_subject bounded (Failed text ∷ notes) = if is_overflow bounded text then of_subject bounded notes else Failed text ∷ of_subject bounded notes

-- the events of a whole stream
abbrev pub stream_events : Begin → Bool → ℕ → List Note → List StreamEvent
stream_events begin bounded who notes =
    begin_events begin (standing_at begin bounded).known who ++ notes_events (standing_at begin bounded) notes

-- its pieces
abbrev pub stream_pieces : Begin → Bool → ℕ → List Note → List Piece
stream_pieces begin bounded who notes = Retry 1000 ∷ pieces_of (stream_events begin bounded who notes)

-- notes as a subject gives them: places have 32 bits, texts no LF, and an end is the last
abbrev pub AreNotes : List Note → Type 0
AreNotes [] = Unit {0}
AreNotes (Next item ∷ notes) = ((item.place < 2 ^ 32) × HasNoLf item.text) × AreNotes notes
AreNotes (Completed ∷ notes) = notes ≡ []
AreNotes (Failed text ∷ notes) = HasNoLf text × (notes ≡ [])

-- a begin as it is read: a place has 32 bits, and an id has an epoch
abbrev pub IsBegin : Begin → Type 0
IsBegin Fresh = Unit {0}
IsBegin (Behind place) = IsPlace place
IsBegin (Restarted id) = IsEpoch id.epoch × IsPlace id.place

-- WHAT ITS READER HEARS: of some notes just what is told of its subject's to a reader that knows what this one does
abbrev pub NotesAreHeard : Type 0
NotesAreHeard =
    (standing : Standing) (notes : List Note) → heard_by (notes_events standing notes) ≡ told (of_subject standing.bounded notes) (known_before standing notes)

-- ITS STREAM IS AN ACCOUNT: the pieces of a begin and of some notes are those of the stream of their events; and wherever that is cut, with
-- heartbeats anywhere in it, its reader was told a front of the events and comes again with the id of what it knows by them
pub record StreamIsAccount : Type 0 where
  pub pieces : (begin : Begin) (bounded : Bool) (who : ℕ) (notes : List Note)
      → begin_pieces begin (standing_at begin bounded).known who ++ pieces_of (notes_events (standing_at begin bounded) notes)
      ≡ stream_pieces begin bounded who notes
  pub account : (epoch before come back : List ℕ) (begin : Begin) (bounded : Bool) (who : ℕ) (notes : List Note) (beaten : List Piece)
      → IsEpoch epoch → IsBegin begin → who < 2 ^ 32 → AreNotes notes → without_heartbeats beaten ≡ stream_pieces begin bounded who notes
      → stream_of epoch beaten ≡ come ++ back
      → ComesBehind epoch before (count_to (standing_at begin bounded).known) (stream_events begin bounded who notes) (read come (reader_with before))
