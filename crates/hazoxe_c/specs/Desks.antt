-- What contracts see of a desk, and what a call that takes an event does to it.
use Rattle.std.specs.Prelude.{◌≡◌, ℕ, ◌⊎◌, length, nat_lt, nat_eq, if◌then◌else◌, List, [], Option, None, Some, Result, Ok, Err, MatchOption, MatchResult}
use Rattle.std.specs.List.{list_any}
use Rattle.rx_note.specs.declared.given.Given.{Given}
use Rattle.rx_note.specs.declared.note.Note.{Note}
use Rattle.rx_note.specs.declared.note.Note.TheVariants.{Next}
use Rattle.rx_note.specs.declared.kind.Kind.{Kind}
use Rattle.rx_note.specs.declared.limits.Limits.{Limits}
use Rattle.rx_note.specs.declared.event.Event.TheVariants.{Emit}
use Rattle.rx_note.specs.declared.answer.Answer.{Answer}
use Rattle.rx_note.specs.declared.refusal.Refusal.{Refusal}
use Rattle.rx_note.specs.declared.refusal.Refusal.TheVariants.{Memory}
use Rattle.rx_history.specs.Histories.{Entry, NoEvents}
use Rattle.rx_hub.specs.Hubs.{HubView, StandsFor}
use Rattle.hazoxe_c.specs.Steps.{Told}
use Rattle.hazoxe_c.specs.declared.fault.Fault.{Fault}
use Rattle.hazoxe_c.specs.declared.fault.Fault.TheVariants.{Refused, TooLong, HasLf}

-- a hub, and the notes that it gave and that were not taken yet
pub record DeskView : Type 0 where
  pub hub : HubView
  pub given : List Given

-- a desk before any event
pub record IsNew (kind : Kind) (limits : Limits) (desk : DeskView) : Type 0 where
  pub stands : StandsFor desk.hub.state NoEvents
  pub rules : desk.hub.state.rules ≡ record { kind = kind; limits = limits }
  pub misses : desk.hub.misses ≡ 0
  pub given : desk.given ≡ []

-- what a call came to by what its hub answered
abbrev pub done : Result Answer Refusal → Result Unit Fault
done (Ok answer) = Ok tt
done (Err refusal) = Err (Refused refusal)

-- a call made one step of its hub
pub record Stepped (entry : Entry) (old new : DeskView) (result : Result Unit Fault) : Type 0 where
  pub answer : Result Answer Refusal
  pub told : Told old.hub new.hub old.given new.given answer entry
  pub came_to : result ≡ done answer

-- why bytes are no text
abbrev pub text_fault : List ℕ → Option Fault
text_fault bytes = if nat_lt 1024 (length bytes) then Some TooLong else (if list_any (λ b. nat_eq b 10) bytes then Some HasLf else None)

-- what it comes to that there is such a fault, or none
abbrev pub fault_result : Option Fault → Result Unit Fault
fault_result None = Ok tt
fault_result (Some fault) = Err fault

-- bytes were made a text; or they are none, or there was no memory for it
abbrev pub IsTextOf : List ℕ → Result (List ℕ) Fault → Type 0
IsTextOf bytes result = MatchOption (text_fault bytes)
    (MatchResult result (λ text. text ≡ bytes) (λ fault. fault ≡ Refused Memory))
    (λ fault. result ≡ Err fault)

-- a call was refused, and the desk stays
abbrev pub IsRefused : Fault → DeskView → DeskView → Result Unit Fault → Type 0
IsRefused fault old new result = (result ≡ Err fault) × (new ≡ old)

-- a call emitted the note that is made of a text; or the bytes are none, or there was no memory for the text
abbrev pub Emitted : ℕ → ℕ → (List ℕ → Note) → List ℕ → DeskView → DeskView → Result Unit Fault → Type 0
Emitted port at make bytes old new result = MatchOption (text_fault bytes)
    (Stepped (port, Emit (make bytes) at) old new result ⊎ IsRefused (Refused Memory) old new result)
    (λ fault. IsRefused fault old new result)

-- the note of an item of this text, whose port and place its subject sets
abbrev pub item_note : List ℕ → Note
item_note text = Next (record { from = 0; place = 0; text = text })
