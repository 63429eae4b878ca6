-- Where what waits for an observer stands: on the tape that the observers share, or in a queue of its own.
use Rattle.std.specs.Prelude.{◌≡◌, ◌≢◌, ℕ, ◌+◌, Bool, true, false, not, ◌&&◌, ◌||◌, List, map, Option, None, Some, option_to_list, if◌then◌else◌}
use Rattle.rx_note.specs.declared.item.Item.{Item}
use Rattle.rx_note.specs.declared.note.Note.{Note}
use Rattle.rx_note.specs.declared.note.Note.TheVariants.{Next}
use Rattle.rx_tape.specs.Tapes.{TapeState, place_of}
use Rattle.rx_lane.specs.Lanes.{LaneState, HasRoomFor, MayBeSent, loses_next, overflows_next}
use Rattle.rx_lane.specs.TapeLanes.{StandsBack, lane_on, copy_for}
use Rattle.rx_subject.specs.declared.offer.Offer.{Offer}
use Rattle.rx_hub.specs.declared.seat.Seat.{Seat}
use Rattle.rx_hub.specs.declared.seat.Seat.TheVariants.{Shared, Own}

-- the queue of a seat, over the items of the tape
abbrev pub lane_of : List Item → Seat → LaneState
lane_of items (Shared lane) = lane_on items lane
lane_of items (Own lane) = lane.state

-- the cursor of a seat
abbrev pub cursor_of : Seat → Option ℕ
cursor_of (Shared lane) = Some lane.cursor
cursor_of (Own lane) = None

-- how many of the tape's last items are before the end: those that wait, and one more where one is being offered
abbrev pub back_by : Bool → ℕ → ℕ
back_by true back = back + 1
back_by false back = back

-- the cursor stands before the end by these; a queue of its own never needs room
abbrev pub Stands : TapeState → Bool → Seat → Type 0
Stands tape offered (Shared lane) = StandsBack tape lane.cursor (back_by offered lane.back)
Stands tape offered (Own lane) = (count : ℕ) → HasRoomFor lane count

-- the tape has its items, and no cursor but this one moved
pub record Leaves (old new : TapeState) (cursor : Option ℕ) : Type 0 where
  pub front : new.front ≡ old.front
  pub items : new.items ≡ old.items
  pub others : (other : ℕ) → cursor ≢ Some other → place_of new.places other ≡ place_of old.places other

-- the tape has no cursor but this one
abbrev pub IsAlone : TapeState → Option ℕ → Type 0
IsAlone tape cursor = (other : ℕ) → cursor ≢ Some other → place_of tape.places other ≡ None

-- the subject may send more to a seat: one on the tape has no end, and one with a queue of its own tells whether it has
abbrev pub TakesMore : Seat → Type 0
TakesMore (Shared lane) = MayBeSent lane.policy lane.ended
TakesMore (Own lane) = Unit {0}

-- the copy of an item that its offer takes: on the tape one is needed where the item is owed, else where it isn't lost and the
-- queue has not ended
abbrev pub copy_needed : Seat → Item → Option Item
copy_needed (Shared lane) item = copy_for lane.owing item
copy_needed (Own lane) item = if lane.state.ended || loses_next lane.state then None else Some item

-- how many items are given at once that are offered: as many as are owed, and none once the seat has ended
abbrev pub owing_of : Seat → ℕ
owing_of (Shared lane) = lane.owing
owing_of (Own lane) = if lane.state.ended then 0 else lane.state.owing

-- whether an item that is offered now overflows and ends the seat
abbrev pub overflows_at : Seat → Bool
overflows_at (Shared lane) = false
overflows_at (Own lane) = not lane.state.ended && overflows_next lane.state

-- what an item that is offered and fits gives at once
abbrev pub given_now : Seat → Item → List Note
given_now seat item = map Next (option_to_list (copy_for (owing_of seat) item))

-- this is the copy that a queue of its own keeps of an item that is not owed; on the tape none is kept
abbrev pub HoldsCopy : Item → Option Item → Seat → Type 0
HoldsCopy item copy (Shared lane) = Unit {0}
HoldsCopy item copy (Own lane) = owing_of (Own lane) ≡ 0 → copy ≡ copy_needed (Own lane) item

-- the same, where there may be no item
abbrev pub needed : Seat → Option Item → Option Item
needed seat None = None
needed seat (Some item) = copy_needed seat item

-- these are the copies that the seat needs of an offer
pub record IsReady (offer ready : Offer) (seat : Seat) : Type 0 where
  pub item : ready.item ≡ needed seat offer.item
  pub end : ready.end ≡ offer.end

-- nothing is made ready
pub record IsIdle (ready : Offer) : Type 0 where
  pub item : ready.item ≡ None
  pub end : ready.end ≡ None

-- between the two passes of an item at most a copy for a queue of its own is
abbrev pub HoldsAside : Seat → Offer → Type 0
HoldsAside (Shared lane) ready = IsIdle ready
HoldsAside (Own lane) ready = ready.end ≡ None

-- what a seat leaves of the copy that was made ready for it: a queue of its own takes it
abbrev pub copy_left : Seat → Option Item → Option Item
copy_left (Shared lane) copy = copy
copy_left (Own lane) copy = None
