-- How a program in C says how an observer is to be served, and what a call does for the subject in its struct. The numbers
-- are this project's own.
--
-- The contracts speak of what the struct holds, `handle.value`: nothing, or a desk, which is a hub with the notes that it
-- gave and that were not taken yet. Each call that finds none answers `NoSubject`, leaves it so, and writes nothing
-- (`Serves`).
--
-- An emission, join, request or disposal is one step of the hub: the number is that of its answer, the notes that wait to be
-- taken are followed by exactly what the step gives, and the hub stands for the history with the event; a refusal for memory
-- leaves all but the count of such.
--
-- That a text which is within its limits is ever taken, no contract says where memory is wanting: `Emitted` and `Made` leave
-- `Memory` open, as `Text::new` and `Hub::new` do.
use Rattle.std.specs.Prelude.{◌≡◌, ℕ, ◌==◌, ◌&&◌, nat_le, Bool, if◌then◌else◌, Option, None, Some, Result, Ok, Err, MatchOption, MatchResult}
use Rattle.rx_note.specs.Choices.{Choice, choice}
use Rattle.rx_note.specs.declared.strategy.Strategy.{Strategy}
use Rattle.rx_note.specs.declared.strategy.Strategy.TheVariants.{Buffer, Drop, Latest, Bounded}
use Rattle.rx_note.specs.declared.errors.Errors.{Errors}
use Rattle.rx_note.specs.declared.errors.Errors.TheVariants.{Ahead, Delay}
use Rattle.rx_note.specs.declared.event.Event.TheVariants.{Join}
use Rattle.rx_note.specs.declared.answer.Answer.{Answer}
use Rattle.rx_note.specs.declared.answer.Answer.TheVariants.{Joined}
use Rattle.rx_note.specs.declared.refusal.Refusal.{Refusal}
use Rattle.hazoxe_c.specs.Steps.{Told}
use Rattle.hazoxe_c.specs.Desks.{DeskView, IsRefused, done}
use Rattle.hazoxe_c.specs.Numbers.{code}
use Rattle.hazoxe_c.specs.declared.fault.Fault.{Fault}
use Rattle.hazoxe_c.specs.declared.fault.Fault.TheVariants.{BadStrategy, BadRoom, BadErrors}

-- the strategy, where the room is one of its rooms
abbrev pub roomed : Bool → Strategy → Result Strategy Fault
roomed is_room strategy = if is_room then Ok strategy else Err BadRoom

-- which strategy a number and a room mean
abbrev pub strategy_read : ℕ → ℕ → Result Strategy Fault
strategy_read number room =
    if number == 0 then roomed (room == 0) Buffer
    else (if number == 1 then roomed (nat_le room 1024) (Drop room)
    else (if number == 2 then roomed (nat_le 1 room && nat_le room 1024) (Latest room)
    else (if number == 3 then roomed (nat_le room 1024) (Bounded room)
    else Err BadStrategy)))

-- which error mode a number means
abbrev pub errors_read : ℕ → Result Errors Fault
errors_read number = if number == 0 then Ok Ahead else (if number == 1 then Ok Delay else Err BadErrors)

-- the choice of a strategy and an error mode that were read
abbrev pub chosen : Result Strategy Fault → Result Errors Fault → Result Choice Fault
chosen (Ok strategy) (Ok errors) = Ok (choice strategy errors)
chosen (Ok strategy) (Err fault) = Err fault
chosen (Err fault) errors = Err fault

-- which policy is asked for
abbrev pub policy_read : ℕ → ℕ → ℕ → Result Choice Fault
policy_read strategy room errors = chosen (strategy_read strategy room) (errors_read errors)

-- the number of the observer that a Join made
abbrev pub joined : Result Answer Refusal → ℕ → ℕ
joined (Ok (Joined who)) before = who
joined answer before = before

-- a call made the step of a Join, and told the number of the observer
pub record HasJoined (policy : Choice) (first at : ℕ) (old new : DeskView) (who_before who_after : ℕ) (result : Result Unit Fault) : Type 0 where
  pub answer : Result Answer Refusal
  pub told : Told old.hub new.hub old.given new.given answer (0, Join policy first at)
  pub came_to : result ≡ done answer
  pub who : who_after ≡ joined answer who_before

-- a call made it, or was asked for no policy that there is
abbrev pub Joins : Result Choice Fault → ℕ → ℕ → DeskView → DeskView → ℕ → ℕ → Result Unit Fault → Type 0
Joins policy first at old new before after result = MatchResult policy
    (λ policy. HasJoined policy first at old new before after result)
    (λ fault. IsRefused fault old new result × (after ≡ before))

-- a call did so to the desk in a struct, which still holds it, and answered the number of what it came to
pub record Served (old : DeskView) (new : Option DeskView) (number : ℕ) (Did : DeskView → DeskView → Result Unit Fault → Type 0) : Type 0 where
  pub desk : DeskView
  pub held : new ≡ Some desk
  pub result : Result Unit Fault
  pub told : number ≡ code result
  pub did : Did old desk result

-- a call did so where the struct holds a subject, and else nothing: what it may write to stays as it was
abbrev pub Serves : Option DeskView → Option DeskView → ℕ → Type 0 → (DeskView → DeskView → Result Unit Fault → Type 0) → Type 0
Serves old new number Stays Did = MatchOption old ((number ≡ 8) × (new ≡ None) × Stays) (λ desk. Served desk new number Did)
