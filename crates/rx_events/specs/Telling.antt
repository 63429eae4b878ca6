-- How notes are told to a reader that knows what became of some items. The rule is this project's own.
use Rattle.std.specs.Prelude.{◌+◌, ◌-◌, ◌==◌, ◌&&◌, ◌||◌, nat_lt, ℕ, Bool, true, false, if◌then◌else◌, List, [], ◌∷◌, ◌++◌, map, is_some, codes, Option, None, Some}
use Rattle.rx_note.specs.declared.item.Item.{Item}
use Rattle.rx_note.specs.declared.note.Note.{Note}
use Rattle.rx_note.specs.declared.note.Note.TheVariants as notes
use Rattle.rx_proto.specs.Reading.{same_word}
use Rattle.rx_http.specs.Answers.{answer_bytes}
use Rattle.rx_http.specs.Laws.{Event, Piece, Retry, stream_of}
use Rattle.rx_http.specs.declared.answer.Answer.TheVariants.{Events}
use Rattle.rx_http.specs.declared.request.begin.Begin.{Begin}
use Rattle.rx_http.specs.declared.request.begin.Begin.TheVariants.{Behind, Fresh, Restarted}
use Rattle.rx_http.specs.declared.stream_event.StreamEvent.{StreamEvent}
use Rattle.rx_http.specs.declared.stream_event.StreamEvent.TheVariants.{Completed, Failed, Joined, Missed, Next, Overflowed}
use Rattle.rx_http.specs.declared.stream_event.StreamEvent.TheVariants as events
use Rattle.rx_events.specs.declared.standing.Standing.{Standing}

-- how many items stand up to a place, if there is one
abbrev pub count_to : Option ℕ → ℕ
count_to None = 0
count_to (Some place) = place + 1

-- how a reader stands that begins there
abbrev pub standing_at : Begin → Bool → Standing
standing_at Fresh bounded = record { known = None; fresh = true; bounded = bounded }
standing_at (Behind known) bounded = record { known = known; fresh = false; bounded = bounded }
standing_at (Restarted id) bounded = record { known = None; fresh = false; bounded = bounded }

-- an item is a seed, by its place
abbrev pub is_seed : Item → Bool
is_seed item = item.place == 4294967295

-- how many items are left out between what a reader knows and this one: none before a seed; None: it knows already what became of this one
abbrev pub left_out : Standing → Item → Option ℕ
left_out standing item =
    if is_seed item || standing.fresh then Some 0
    else if nat_lt item.place (count_to standing.known) then None
    else Some (item.place - count_to standing.known)

-- the events of an item behind so many that are left out
abbrev pub item_events : Option ℕ → Item → List StreamEvent
item_events None item = []
item_events (Some left) item =
    if left == 0 then Next (record { ref_ptr = (0, 0); now = item }) ∷ []
    else Missed left (item.place - 1) ∷ Next (record { ref_ptr = (0, 0); now = item }) ∷ []

-- an error says that its observer overflowed, where it may
abbrev pub is_overflow : Bool → List ℕ → Bool
is_overflow bounded text = bounded && same_word text (codes "OVERFLOW")

-- the events by which a note is told to a reader that stands so
abbrev pub note_events : Standing → Note → List StreamEvent
note_events standing (notes.Next item) = item_events (left_out standing item) item
note_events standing notes.Completed = Completed standing.known ∷ []
note_events standing (notes.Failed text) =
    if is_overflow standing.bounded text then Overflowed ∷ [] else Failed (record { ref_ptr = (0, 0); now = text }) standing.known ∷ []

-- whether a note is told, or passed over
abbrev pub is_told : Standing → Note → Bool
is_told standing (notes.Next item) = is_some (left_out standing item)
is_told standing notes.Completed = true
is_told standing (notes.Failed text) = true

-- how it stands behind an item that is left out by so many, or known
abbrev pub standing_with : Standing → Item → Option ℕ → Standing
standing_with standing item None = standing
standing_with standing item (Some left) =
    if is_seed item then standing else record { known = Some item.place; fresh = false; bounded = standing.bounded }

-- how it stands behind an item
abbrev pub standing_behind : Standing → Item → Standing
standing_behind standing item = standing_with standing item (left_out standing item)

-- how it stands behind a note
abbrev pub standing_after : Standing → Note → Standing
standing_after standing (notes.Next item) = standing_behind standing item
standing_after standing notes.Completed = standing
standing_after standing (notes.Failed text) = standing

-- the pieces of some events
abbrev pub pieces_of : List StreamEvent → List Piece
pieces_of events = map Event events

-- the bytes of some events
abbrev pub told_bytes : List ℕ → List StreamEvent → List ℕ
told_bytes epoch events = stream_of epoch (pieces_of events)

-- the events by which some notes are told, one after another
abbrev pub notes_events : Standing → List Note → List StreamEvent
notes_events standing [] = []
notes_events standing (note ∷ more) = note_events standing note ++ notes_events (standing_after standing note) more

-- how it stands behind some notes
abbrev pub standing_last : Standing → List Note → Standing
standing_last standing [] = standing
standing_last standing (note ∷ more) = standing_last (standing_after standing note) more

-- the events with which a stream begins: that the server began anew, and as whom and from where its reader hears
abbrev pub begin_events : Begin → Option ℕ → ℕ → List StreamEvent
begin_events Fresh known who = Joined who known ∷ []
begin_events (Behind place) known who = Joined who known ∷ []
begin_events (Restarted id) known who = events.Restarted (record { ref_ptr = (0, 0); now = id }) ∷ Joined who known ∷ []

-- the pieces with which a stream begins: a reader that is cut comes again after a second
abbrev pub begin_pieces : Begin → Option ℕ → ℕ → List Piece
begin_pieces begin known who = Retry 1000 ∷ pieces_of (begin_events begin known who)

-- the bytes with which an answer begins that is a stream
abbrev pub begin_bytes : List ℕ → Begin → Option ℕ → ℕ → List ℕ
begin_bytes epoch begin known who = answer_bytes Events ++ stream_of epoch (begin_pieces begin known who)
