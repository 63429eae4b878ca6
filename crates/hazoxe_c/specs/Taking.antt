-- How a program in C is told of the notes that were given, and takes them. The numbers are this project's own.
--
-- The first note that waits is told of, and taken with its text where the buffer has room for it; else it stays, and so does
-- the buffer.
use Rattle.std.specs.Prelude.{◌≡◌, ℕ, nat_lt, List, [], ◌∷◌, ◌++◌, length, drop, Option, None, Some, Result, Ok, Err, MatchBool}
use Rattle.rx_note.specs.declared.given.Given.{Given}
use Rattle.rx_note.specs.declared.note.Note.{Note}
use Rattle.rx_note.specs.declared.note.Note.TheVariants.{Next, Completed, Failed}
use Rattle.rx_note.specs.declared.refusal.Refusal.TheVariants.{NoObserver}
use Rattle.rx_history.specs.Histories.{History}
use Rattle.rx_hub.specs.Hubs.{StandsFor}
use Rattle.rx_hub.specs.Counts.{waiting_count}
use Rattle.rx_hub.specs.declared.no_observer.NoObserver.{NoObserver as UnknownObserver}
use Rattle.hazoxe_c.specs.Desks.{DeskView}
use Rattle.hazoxe_c.specs.declared.counts.Counts.{Counts}
use Rattle.hazoxe_c.specs.declared.note_head.NoteHead.{NoteHead}
use Rattle.hazoxe_c.specs.declared.fault.Fault.{Fault}
use Rattle.hazoxe_c.specs.declared.fault.Fault.TheVariants.{Refused, NothingGiven, BufferTooSmall}

-- the first of a list
abbrev pub first_of : List Given → Option Given
first_of [] = None
first_of (given ∷ rest) = Some given

-- the text of a note; a completion has none
abbrev pub text_of : Note → List ℕ
text_of (Next item) = item.text
text_of Completed = []
text_of (Failed text) = text

-- what is told of a note beside its text: port and place are those of an item, and else 0
abbrev pub note_head : ℕ → Note → NoteHead
note_head who (Next item) = record { observer = who; kind = 0; port = item.from; place = item.place; length = length item.text }
note_head who Completed = record { observer = who; kind = 1; port = 0; place = 0; length = 0 }
note_head who (Failed text) = record { observer = who; kind = 2; port = 0; place = 0; length = length text }

-- the same of a note that was given
abbrev pub head_of : Given → NoteHead
head_of given = note_head given.who given.note

-- the first note was told of, and nothing taken
abbrev pub Peeked : Option Given → NoteHead → NoteHead → Result Unit Fault → Type 0
Peeked None before after result = (result ≡ Err NothingGiven) × (after ≡ before)
Peeked (Some given) before after result = (result ≡ Ok tt) × (after ≡ head_of given)

-- the first note of a desk was told of, which stays as it was
abbrev pub Peeks : NoteHead → NoteHead → DeskView → DeskView → Result Unit Fault → Type 0
Peeks before after old new result = (new ≡ old) × Peeked (first_of old.given) before after result

-- a text was written to the front of a buffer
abbrev pub written : List ℕ → List ℕ → List ℕ
written text buffer = text ++ drop (length text) buffer

-- a note was taken and its text written, where the buffer has room for it; else it was told of
pub record Took (given : Given) (old new : DeskView) (head : NoteHead) (before after : List ℕ) (result : Result Unit Fault) : Type 0 where
  pub is_told : head ≡ head_of given
  pub is_taken : MatchBool (nat_lt (length before) (length (text_of given.note)))
      ((result ≡ Err BufferTooSmall) × (new ≡ old) × (after ≡ before))
      ((result ≡ Ok tt) × (new ≡ record { hub = old.hub; given = drop 1 old.given }) × (after ≡ written (text_of given.note) before))

-- the same, where there is a note
abbrev pub Takes : Option Given → DeskView → DeskView → NoteHead → NoteHead → List ℕ → List ℕ → Result Unit Fault → Type 0
Takes None old new head_before head_after before after result = (result ≡ Err NothingGiven) × (new ≡ old) × (head_after ≡ head_before) × (after ≡ before)
Takes (Some given) old new head_before head_after before after result = Took given old new head_after before after result

-- the first note of a desk was taken, as far as there is one and the buffer has room
abbrev pub TakesFirst : NoteHead → NoteHead → List ℕ → List ℕ → DeskView → DeskView → Result Unit Fault → Type 0
TakesFirst head_before head_after before after old new result = Takes (first_of old.given) old new head_before head_after before after result

-- what a call to know how many notes wait for an observer came to, by what the hub answered
abbrev pub waiting_told : Result ℕ UnknownObserver → Result Unit Fault
waiting_told (Ok count) = Ok tt
waiting_told (Err unknown) = Err (Refused NoObserver)

-- and the number that it wrote
abbrev pub waiting_written : Result ℕ UnknownObserver → ℕ → ℕ
waiting_written (Ok count) before = count
waiting_written (Err unknown) before = before

-- how many notes wait for an observer was told, by the definitions
pub record Waits (who before after : ℕ) (old new : DeskView) (result : Result Unit Fault) : Type 0 where
  pub count : Result ℕ UnknownObserver
  pub counted : (H : History) → StandsFor old.hub.state H → count ≡ waiting_count old.hub.state.rules H who
  pub same : new ≡ old
  pub came_to : result ≡ waiting_told count
  pub written : after ≡ waiting_written count before

-- what can be counted of a desk
abbrev pub counts_of : DeskView → Counts
counts_of desk = record { observers = length desk.hub.state.observers; joins = desk.hub.state.joined; given = length desk.given; misses = desk.hub.misses }

-- it was told, and the desk stays as it was
abbrev pub Counted : Counts → Counts → DeskView → DeskView → Result Unit Fault → Type 0
Counted before after old new result = (result ≡ Ok tt) × (new ≡ old) × (after ≡ counts_of old)
