-- The queue of one observer: what contracts see of it, and the signals that it stands for.
--
-- A request, an offered item and the end give exactly what given gains by what the subject sends with that signal, and the
-- lane then stands for the longer list: where an item overflows, by the error in its place, which comes back from `offer`
-- where it is given at once. An item and an end are for a lane that has not ended. By `ask_for` each note is addressed to the
-- observer of the number handed in.
--
-- `reserve` leaves what the lane stands for, and afterwards so many offers find room; `ask` and `end` keep the room, an offer
-- all but one place; under Buffer there always is room, so there `offer` needs no `reserve`; an offer is never refused, also
-- where it overflows.
use Rattle.std.specs.Prelude.{◌≡◌, ◌+◌, ◌<◌, ◌≤◌, ◌^◌, ◌↔◌, ◌&&◌, nat_le, ℕ, Bool, false, List, ◌++◌, Option, Some, Result, Err, is_some, length, map}
use Rattle.rx_note.specs.declared.given.Given.{Given}
use Rattle.rx_note.specs.declared.item.Item.{Item}
use Rattle.rx_note.specs.declared.note.Note.{Note}
use Rattle.rx_note.specs.declared.strategy.Strategy.{Strategy}
use Rattle.rx_note.specs.declared.strategy.Strategy.TheVariants.{Buffer, Drop, Latest, Bounded}
use Rattle.rx_note.specs.Choices.{Choice}
use Rattle.rx_note.specs.Signals.{Signal, Signals, policy_of, demand, terminal_of, may_overflow, overflow, sent, line_items, waiting_items, waiting_end, owed, given}
use Rattle.rx_lane.specs.declared.ask_error.AskError.{AskError}
use Rattle.rx_lane.specs.declared.ask_error.AskError.TheVariants.{ZeroRequest, TooMuch}
use Rattle.rx_lane.specs.Queues.{NeedsNoMemory, is_full, overfills}

-- what waits in a lane, and what it owes
pub record LaneState : Type 0 where
  pub policy : Choice
  pub items : List Item
  pub last : List Note
  pub ended : Bool
  pub owing : ℕ

-- a lane, with the number of items that a growing queue has room for
pub record LaneView : Type 0 where
  pub state : LaneState
  pub spare : ℕ

-- the lane is what these signals leave
pub record StandsFor (lane : LaneState) (s : Signals) : Type 0 where
  pub policy : lane.policy ≡ policy_of s
  pub items : lane.items ≡ waiting_items s
  pub last : lane.last ≡ waiting_end s
  pub ended : lane.ended ≡ is_some (terminal_of s)
  pub owing : lane.owing ≡ owed s

-- the lane has room for so many offers; under Drop and Latest it always has
abbrev pub HasRoomFor : LaneView → ℕ → Type 0
HasRoomFor lane count = NeedsNoMemory lane.state.policy.strategy count lane.spare

-- the lane that was has room for so many offers more than the one that is now
abbrev pub KeepsRoom : LaneView → LaneView → ℕ → Type 0
KeepsRoom old new more = (count : ℕ) → HasRoomFor old (count + more) → HasRoomFor new count

-- whether an item that is offered now is lost: nothing is owed, and the room is full under Drop
abbrev pub loses_next : LaneState → Bool
loses_next lane = nat_le lane.owing 0 && is_full lane.policy.strategy (length lane.items)

-- whether an item that is offered now overflows: nothing is owed, and the room is full under Bounded
abbrev pub overflows_next : LaneState → Bool
overflows_next lane = nat_le lane.owing 0 && overfills lane.policy.strategy (length lane.items)

-- more may be sent to a lane of this policy: it has no end, or one that an overflow may have made
abbrev pub MayBeSent : Choice → Bool → Type 0
MayBeSent policy ended = may_overflow policy.strategy ≡ false → ended ≡ false

-- before its end the lane keeps the error by which an overflow would end it, where one may
abbrev pub KeepsOverflow : Strategy → Option Note → Type 0
KeepsOverflow Buffer kept = Unit {0}
KeepsOverflow (Drop room) kept = Unit {0}
KeepsOverflow (Latest room) kept = Unit {0}
KeepsOverflow (Bounded room) kept = kept ≡ Some overflow

-- a request is refused by its number alone: where it is for no items, and where more than 4,294,967,295 would be owed
pub record RefusesRequest {A : Type 0} (owing n : ℕ) (result : Result A AskError) : Type 0 where
  pub zero : (result ≡ Err ZeroRequest) ↔ (n ≡ 0)
  pub too_much : (result ≡ Err TooMuch) ↔ ((0 < n) × (2 ^ 32 ≤ owing + n))

-- by this signal exactly these notes are given
abbrev pub Gives : LaneState → Signal → List Note → Type 0
Gives lane signal notes = (s : Signals) → StandsFor lane s → given (sent s signal) ≡ given s ++ notes

-- by this signal exactly what was put at the end of the list is given
abbrev pub GivesInto : LaneState → Signal → List Note → List Note → Type 0
GivesInto lane signal before after = (notes : List Note) × (after ≡ before ++ notes) × Gives lane signal notes

-- notes addressed to an observer
abbrev pub addressed : ℕ → List Note → List Given
addressed who notes = map (λ note. record { who = who; note = note }) notes

-- by this signal exactly what was put at the end of the list, addressed to an observer, is given
abbrev pub GivesTo : ℕ → LaneState → Signal → List Given → List Given → Type 0
GivesTo who lane signal before after = (notes : List Note) × (after ≡ before ++ addressed who notes) × Gives lane signal notes

-- the lane stands for the signals with this one more
abbrev pub GoesOn : LaneState → LaneState → Signal → Type 0
GoesOn old new signal = (s : Signals) → StandsFor old s → StandsFor new (sent s signal)

-- whether the terminal was given: there is one, and every item before it was requested
abbrev pub is_over : Signals → Bool
is_over s = is_some (terminal_of s) && nat_le (length (line_items s)) (demand s)
