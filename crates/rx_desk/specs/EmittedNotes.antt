-- A note that is asked for by its kind and its text, and what its emission is answered (this project's own rule).
use Rattle.std.specs.Prelude.{◌-◌, ◌<◌, ◌≤◌, ℕ, List, length, Option, None, Some, Result, Ok, Err}
use Rattle.rx_http.specs.declared.answer.refusal.Refusal.{Refusal}
use Rattle.rx_http.specs.declared.answer.refusal.Refusal.TheVariants as causes
use Rattle.rx_http.specs.declared.request.note_kind.NoteKind.{NoteKind}
use Rattle.rx_http.specs.declared.request.note_kind.NoteKind.TheVariants as kinds
use Rattle.rx_note.specs.Texts.{HasLf}
use Rattle.rx_note.specs.declared.answer.Answer.{Answer}
use Rattle.rx_note.specs.declared.answer.Answer.TheVariants as answers
use Rattle.rx_note.specs.declared.item.Item.{Item}
use Rattle.rx_note.specs.declared.note.Note.{Note}
use Rattle.rx_note.specs.declared.note.Note.TheVariants as notes
use Rattle.rx_note.specs.declared.refusal.Refusal as refused
use Rattle.rx_note.specs.declared.refusal.Refusal.TheVariants as refusals
use Rattle.rx_pump.specs.declared.call_desk.call_error.CallError.{CallError}
use Rattle.rx_pump.specs.declared.reply.Reply.{Reply}

-- an item of this text, whose port and place its subject sets
abbrev pub item_of : List ℕ → Item
item_of text = record { from = 0; place = 0; text = text }

-- the note of a kind and a text
abbrev pub note_of : NoteKind → List ℕ → Note
note_of kinds.Next text = notes.Next (item_of text)
note_of kinds.Completed text = notes.Completed
note_of kinds.Failed text = notes.Failed text

-- why bytes are no text: there are more than 1,024, or an LF stands among them, or there was no memory for them
abbrev pub IsRefusedText : List ℕ → Refusal → Type 0
IsRefusedText bytes causes.Long = 1024 < length bytes
IsRefusedText bytes causes.Lf = (length bytes ≤ 1024) × HasLf bytes
IsRefusedText bytes causes.Memory = (length bytes ≤ 1024) × (HasLf bytes → ⊥)
IsRefusedText bytes other = ⊥

-- why a note is refused: its text is; a completion has none
abbrev pub IsRefusedNote : NoteKind → List ℕ → Refusal → Type 0
IsRefusedNote kinds.Next text cause = IsRefusedText text cause
IsRefusedNote kinds.Completed text cause = ⊥
IsRefusedNote kinds.Failed text cause = IsRefusedText text cause

-- why an emission is refused that its subject refused so
abbrev pub cause_in : refused.Refusal → Refusal
cause_in refusals.Ended = causes.Ended
cause_in refusals.Spent = causes.Spent
cause_in refusals.Memory = causes.Memory
cause_in refusals.Full = causes.Gone
cause_in refusals.ZeroRequest = causes.Gone
cause_in refusals.NoObserver = causes.Gone
cause_in refusals.TooMuch = causes.Gone

-- the place of a note of this kind, where so many items were accepted by it: an item is the last of them
abbrev pub place_in : NoteKind → ℕ → Option ℕ
place_in kinds.Next items = Some (items - 1)
place_in kinds.Completed items = None
place_in kinds.Failed items = None

-- what the emission of a note of this kind is answered, by what its subject answered, and how many items that had accepted by then
abbrev pub emitted_in : NoteKind → Result Answer refused.Refusal → ℕ → Result (Option ℕ) Refusal
emitted_in kind (Ok answers.Admitted) items = Ok (place_in kind items)
emitted_in kind (Ok (answers.Joined who)) items = Err causes.Gone
emitted_in kind (Ok answers.Asked) items = Err causes.Gone
emitted_in kind (Ok answers.Left) items = Err causes.Gone
emitted_in kind (Err cause) items = Err (cause_in cause)

-- what the emission of a note of this kind is answered whose call was answered so
abbrev pub emitted_by : {S : Type 0} → NoteKind → Result (Reply S) (CallError S) → Result (Option ℕ) Refusal
emitted_by kind (Ok reply) = emitted_in kind reply.result reply.items
emitted_by kind (Err error) = Err causes.Gone
