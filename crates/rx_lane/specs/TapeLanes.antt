-- The queue of an observer whose items stand on a tape that several observers share: what contracts see of it, and the
-- queue that it is over the items of that tape.
--
-- A lane that joins with a policy and a request, and is then offered a lead and the last so many items of the tape, gives
-- exactly what these signals release and stands for them; `Memory` leaves the tape's items and cursors and the list. By
-- `open_for` each note is addressed to the observer that joins.
--
-- A request, an offer of the tape's last item or of one that is not on the tape, and the end give exactly what given gains by
-- that signal, and the lane then stands for the longer list over the tape as it then is; an item and an end are for a lane
-- that has not ended (`is_ended`); a request is refused as by a `Lane`, and leaves the lane, the tape and the list. By
-- `ask_for` and `ask_alone` each note that is given is addressed to the observer of the number handed in.
--
-- Its cursor stands before the tape's end by the number of its items that wait there, and no call moves another's; `end_on`
-- moves it past what waits no more, and `close` releases it. But for `ask_alone`, which asks that no other cursor is on the
-- tape, no call adds or removes an item.
use Rattle.std.specs.Prelude.{◌≡◌, ◌≢◌, ℕ, ◌-◌, ◌<◌, ◌≤◌, ◌++◌, Bool, List, [], ◌∷◌, length, map, Option, None, Some, nat_lt, option_to_list, if◌then◌else◌}
use Rattle.rx_note.specs.declared.given.Given.{Given}
use Rattle.rx_note.specs.declared.item.Item.{Item}
use Rattle.rx_note.specs.declared.note.Note.{Note}
use Rattle.rx_note.specs.declared.note.Note.TheVariants.{Next}
use Rattle.rx_note.specs.declared.strategy.Strategy.{Strategy}
use Rattle.rx_note.specs.declared.strategy.Strategy.TheVariants.{Buffer, Drop, Latest, Bounded}
use Rattle.rx_note.specs.Choices.{Choice}
use Rattle.rx_note.specs.Signals.{Requested, Offered, Signals, Start, ◌▸◌, sent, given}
use Rattle.rx_tape.specs.Tapes.{TapeState, end_of, place_of, last_items, waits}
use Rattle.rx_lane.specs.declared.joiner.Joiner.{Joiner}
use Rattle.rx_lane.specs.Lanes.{LaneState, StandsFor, Gives, GoesOn, addressed}

-- WHAT WAITS

-- the cursor stands so many items before the end
pub record StandsBack (tape : TapeState) (cursor back : ℕ) : Type 0 where
  pub within : back ≤ length tape.items
  pub place : place_of tape.places cursor ≡ Some (end_of tape - back)

-- the same, where items of the tape wait
abbrev pub StandsWhereSome : TapeState → ℕ → ℕ → Type 0
StandsWhereSome tape cursor back = 0 < back → StandsBack tape cursor back

-- no other number has a cursor
abbrev pub IsAlone : TapeState → ℕ → Type 0
IsAlone tape cursor = (other : ℕ) → other ≢ cursor → place_of tape.places other ≡ None

-- THE LANE

-- a lane on a tape, by its cursor
pub record TapeLaneState : Type 0 where
  pub policy : Choice
  pub cursor : ℕ
  pub lead : Option Item
  pub back : ℕ
  pub last : List Note
  pub ended : Bool
  pub owing : ℕ

-- the queue that it is, over the items of the tape
abbrev pub lane_on : List Item → TapeLaneState → LaneState
lane_on items lane = record {
  policy = lane.policy;
  items = waits lane.lead items lane.back;
  last = lane.last;
  ended = lane.ended;
  owing = lane.owing;
}

-- the strategies whose items may stand on a tape: those under which what waits are the last items
abbrev pub IsShared : Strategy → Type 0
IsShared Buffer = Unit {0}
IsShared (Drop room) = ⊥
IsShared (Latest room) = 0 < room
IsShared (Bounded room) = ⊥

-- what a strategy leaves of the items that wait
abbrev pub within_room : Strategy → List Item → List Item
within_room Buffer items = items
within_room (Drop room) items = items
within_room (Latest room) items = last_items items room
within_room (Bounded room) items = items

-- the copy of an item that is handed over with it: it is needed where the item is owed
abbrev pub copy_for : ℕ → Item → Option Item
copy_for owing item = if nat_lt 0 owing then Some item else None

-- WHAT A CALL DOES

-- the tape has the items and the cursors that it had
pub record HoldsSame (old new : TapeState) : Type 0 where
  pub front : new.front ≡ old.front
  pub items : new.items ≡ old.items
  pub places : (cursor : ℕ) → place_of new.places cursor ≡ place_of old.places cursor

-- several items offered
abbrev pub offered_all : Signals → List Item → Signals
offered_all s [] = s
offered_all s (item ∷ items) = offered_all (sent s (Offered item)) items

-- a lane that joins with this policy and request and is then offered these items: what it gives, put at the end of a list
pub record Begins (lane : LaneState) (policy : Choice) (first : ℕ) (items : List Item) (notes : List Note) : Type 0 where
  pub gives : given (offered_all (Start policy ▸ Requested first) items) ≡ notes
  pub stands : StandsFor lane (offered_all (Start policy ▸ Requested first) items)

-- the same, where the notes were put at the end of a list
abbrev pub BeginsInto : LaneState → Choice → ℕ → List Item → List Note → List Note → Type 0
BeginsInto lane policy first items before after =
    (notes : List Note) × (after ≡ before ++ notes) × Begins lane policy first items notes

-- the same of an observer, to which the notes at the end of the list are addressed
abbrev pub BeginsTo : LaneState → Joiner → List Item → List Given → List Given → Type 0
BeginsTo lane joiner items before after =
    (notes : List Note) × (after ≡ before ++ addressed joiner.who notes) × Begins lane joiner.policy joiner.first items notes

-- the last item of the tape was offered, and given where it was owed
pub record Passes (tape tape_new : TapeState) (old new : TapeLaneState) : Type 0 where
  pub gives : (items : List Item) (item : Item) → tape.items ≡ items ++ item ∷ []
      → Gives (lane_on items old) (Offered item) (map Next (option_to_list (copy_for old.owing item)))
  pub stands : (items : List Item) (item : Item) → tape.items ≡ items ++ item ∷ []
      → GoesOn (lane_on items old) (lane_on tape_new.items new) (Offered item)

-- the same, by a copy of it that came back
pub record Offers (tape tape_new : TapeState) (old new : TapeLaneState) (copy came : Option Item) : Type 0 where
  pub gives : (items : List Item) (item : Item) → tape.items ≡ items ++ item ∷ [] → copy ≡ copy_for old.owing item
      → Gives (lane_on items old) (Offered item) (map Next (option_to_list came))
  pub stands : (items : List Item) (item : Item) → tape.items ≡ items ++ item ∷ [] → copy ≡ copy_for old.owing item
      → GoesOn (lane_on items old) (lane_on tape_new.items new) (Offered item)
