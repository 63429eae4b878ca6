-- The ids by which a reader goes on: each tells of how many of its subject's items it knows what became (this project's own
-- rule).
--
-- The id is an account: of a stream whose events are counted from what is known at its begin, cut anywhere: its reader was
-- told a front of the events, and comes again with the id of just as many items as it then knows of, which is what it heard
-- comes to; or with the id that it came with where it was told none.
use Rattle.std.specs.Prelude.{◌≡◌, ℕ, zero, suc, ◌+◌, ◌==◌, Bool, true, false, if◌then◌else◌, List, [], ◌∷◌, ◌++◌, Option, None, Some}
use Rattle.rx_note.specs.declared.note.Note.TheVariants.{Completed, Failed}
use Rattle.rx_http.specs.Epochs.{IsEpoch}
use Rattle.rx_http.specs.Events.{saying_of}
use Rattle.rx_http.specs.Ids.{id_bytes}
use Rattle.rx_http.specs.Laws.{ArePieces, Event, Heartbeat, Piece, Retry, id_behind, message_of, stream_of}
use Rattle.rx_http.specs.Reading.{Message, Reader, read, reader_with}
use Rattle.rx_http.specs.Resuming.{Heard, Missed, Over, Seeded, Told, account}
use Rattle.rx_http.specs.declared.stream_event.StreamEvent.{StreamEvent}
use Rattle.rx_http.specs.declared.stream_event.StreamEvent.TheVariants as events

-- the place of the last of so many items
abbrev pub last_of : ℕ → Option ℕ
last_of zero = None
last_of (suc n) = Some n

-- the events among the pieces of a stream
abbrev pub events_of : List Piece → List StreamEvent
events_of [] = []
events_of (Event event ∷ pieces) = event ∷ events_of pieces
events_of (Retry ms ∷ pieces) = events_of pieces
events_of (Heartbeat ∷ pieces) = events_of pieces

-- what is heard by some events
abbrev pub heard_by : List StreamEvent → List Heard
heard_by [] = []
heard_by (events.Joined who known ∷ more) = heard_by more
heard_by (events.Next item ∷ more) = (if item.now.place == 4294967295 then Seeded item.now else Told item.now) ∷ heard_by more
heard_by (events.Missed count last ∷ more) = Missed count ∷ heard_by more
heard_by (events.Restarted sent ∷ more) = heard_by more
heard_by (events.Completed known ∷ more) = Over Completed ∷ heard_by more
heard_by (events.Failed text known ∷ more) = Over (Failed text.now) ∷ heard_by more
heard_by (events.Overflowed ∷ more) = heard_by more

-- of how many items it is known what became of them behind some events, where it was of so many before
abbrev pub known_behind : ℕ → List StreamEvent → ℕ
known_behind known [] = known
known_behind known (events.Joined who place ∷ more) = known_behind known more
known_behind known (events.Next item ∷ more) = known_behind (if item.now.place == 4294967295 then known else item.now.place + 1) more
known_behind known (events.Missed count last ∷ more) = known_behind (known + count) more
known_behind known (events.Restarted sent ∷ more) = known_behind known more
known_behind known (events.Completed place ∷ more) = known_behind known more
known_behind known (events.Failed text place ∷ more) = known_behind known more
known_behind known (events.Overflowed ∷ more) = known_behind known more

-- whether an end is among some events
abbrev pub has_end : List StreamEvent → Bool
has_end [] = false
has_end (events.Joined who place ∷ more) = has_end more
has_end (events.Next item ∷ more) = has_end more
has_end (events.Missed count last ∷ more) = has_end more
has_end (events.Restarted sent ∷ more) = has_end more
has_end (events.Completed place ∷ more) = true
has_end (events.Failed text place ∷ more) = true
has_end (events.Overflowed ∷ more) = has_end more

-- the places of these events are those of what is known behind each, where so many are known before them; an end is the last
abbrev pub AreCounted : ℕ → List StreamEvent → Type 0
AreCounted known [] = Unit {0}
AreCounted known (events.Joined who place ∷ more) = (place ≡ last_of known) × AreCounted known more
AreCounted known (events.Next item ∷ more) = AreCounted (if item.now.place == 4294967295 then known else item.now.place + 1) more
AreCounted known (events.Missed count last ∷ more) = (Some last ≡ last_of (known + count)) × AreCounted (known + count) more
AreCounted known (events.Restarted sent ∷ more) = (None ≡ last_of known) × AreCounted known more
AreCounted known (events.Completed place ∷ more) = (place ≡ last_of known) × (more ≡ [])
AreCounted known (events.Failed text place ∷ more) = (place ≡ last_of known) × (more ≡ [])
AreCounted known (events.Overflowed ∷ more) = AreCounted known more

-- the first event says who is joined, or that the server began anew: each has an id
abbrev pub BeginsWithId : List StreamEvent → Type 0
BeginsWithId [] = Unit {0}
BeginsWithId (events.Joined who place ∷ more) = Unit {0}
BeginsWithId (events.Restarted sent ∷ more) = Unit {0}
BeginsWithId (other ∷ more) = ⊥

-- the messages of some events, behind an id
abbrev pub messages_by : List ℕ → List ℕ → List StreamEvent → List Message
messages_by epoch before [] = []
messages_by epoch before (event ∷ more) =
    message_of before (saying_of epoch event) ∷ messages_by epoch (id_behind before (saying_of epoch event).id) more

-- the id by which a reader comes again that came with another: that of what it knows by some events, or its own where there are none
abbrev pub id_by : List ℕ → List ℕ → ℕ → List StreamEvent → List ℕ
id_by epoch before known [] = before
id_by epoch before known (event ∷ more) = id_bytes epoch (last_of (known_behind known (event ∷ more))) (has_end (event ∷ more))

-- a reader was told a front of these events, and comes again with the id of what it knows by them
pub record ComesBehind (epoch before : List ℕ) (known : ℕ) (events : List StreamEvent) (r : Reader) : Type 0 where
  pub heard : List StreamEvent
  pub rest : List StreamEvent
  pub front : events ≡ heard ++ rest
  pub told : r.messages ≡ messages_by epoch [] heard
  pub last_id : r.last_id ≡ id_by epoch before known heard

-- THE ID IS AN ACCOUNT: wherever a stream is cut whose events are counted from what is known at its begin, its reader comes again with
-- the id of what it knows by the events that it was told
abbrev pub IdIsAccount : Type 0
IdIsAccount =
    (epoch before come back : List ℕ) (known : ℕ) (pieces : List Piece) → IsEpoch epoch → ArePieces pieces
    → AreCounted known (events_of pieces) → BeginsWithId (events_of pieces) → stream_of epoch pieces ≡ come ++ back
    → ComesBehind epoch before known (events_of pieces) (read come (reader_with before))

-- and what it knows by them is what it heard comes to
abbrev pub HeardIsKnown : Type 0
HeardIsKnown = (known next : ℕ) (heard : List StreamEvent) → account known (heard_by heard) ≡ Some next → next ≡ known_behind known heard
