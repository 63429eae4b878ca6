-- A list of items and the cursors that stand on it. Items are numbered from 0 as they come, and a cursor stands at the
-- number of an item or behind the last one, so that neither an item more nor one that is removed moves it.
use Rattle.std.specs.Prelude.{◌≡◌, ◌≢◌, ℕ, ◌+◌, ◌-◌, ◌≤◌, min, List, [], ◌∷◌, ◌++◌, length, drop, get_or, Option, None, Some, option_to_list}
use Rattle.rx_note.specs.declared.item.Item.{Item}

-- the items that are left, the number of the first of them, and where the cursors stand; None: no cursor has this number
pub record TapeState : Type 0 where
  pub front : ℕ
  pub items : List Item
  pub places : List (Option ℕ)

-- the number of the next item to come
abbrev pub end_of : TapeState → ℕ
end_of tape = tape.front + length tape.items

-- where a cursor stands
abbrev pub place_of : List (Option ℕ) → ℕ → Option ℕ
place_of places cursor = get_or places cursor None

-- the items from a place on
abbrev pub items_from : TapeState → Option ℕ → List Item
items_from tape None = []
items_from tape (Some place) = drop (place - tape.front) tape.items

-- the items that are ahead of a cursor
abbrev pub ahead : TapeState → ℕ → List Item
ahead tape cursor = items_from tape (place_of tape.places cursor)

-- the last of several items
abbrev pub last_items : List Item → ℕ → List Item
last_items items count = drop (length items - count) items

-- what waits of a tape: an item of its own in front, and so many of the last items of the tape
abbrev pub waits : Option Item → List Item → ℕ → List Item
waits lead items back = option_to_list lead ++ last_items items back

-- a tape with no item and no cursor
abbrev pub tape_at_first : TapeState
tape_at_first = record { front = 0; items = []; places = [] }

-- the tape with one item more
abbrev pub pushed : TapeState → Item → TapeState
pushed tape item = record { front = tape.front; items = tape.items ++ item ∷ []; places = tape.places }

-- no item came or went, and no other cursor moved
pub record Spares (old new : TapeState) (cursor : ℕ) : Type 0 where
  pub front : new.front ≡ old.front
  pub items : new.items ≡ old.items
  pub others : (other : ℕ) → other ≢ cursor → place_of new.places other ≡ place_of old.places other

-- this number alone has another place, this one
pub record OneMoved (old new : List (Option ℕ)) (cursor : ℕ) (place : Option ℕ) : Type 0 where
  pub place_is : place_of new cursor ≡ place
  pub others : (other : ℕ) → other ≢ cursor → place_of new other ≡ place_of old other

-- this cursor alone moved, to this place
pub record MovesOn (old new : TapeState) (cursor : ℕ) (place : Option ℕ) : Type 0 where
  pub place_is : place_of new.places cursor ≡ place
  pub spares : Spares old new cursor

-- the lower of a place, if there is one, and a bound
abbrev pub lower_of : Option ℕ → ℕ → ℕ
lower_of None bound = bound
lower_of (Some place) bound = min place bound

-- the lowest of several places and a bound
abbrev pub lowest : List (Option ℕ) → ℕ → ℕ
lowest [] bound = bound
lowest (place ∷ places) bound = lower_of place (lowest places bound)

-- how many items every cursor has passed, save the last ones that are to be kept
abbrev pub passed : TapeState → ℕ → ℕ
passed tape keep = min (lowest tape.places (end_of tape) - tape.front) (length tape.items - keep)

-- the tape without so many of its first items
abbrev pub with_fewer : TapeState → ℕ → TapeState
with_fewer tape count = record {
  front = tape.front + count;
  items = drop count tape.items;
  places = tape.places;
}

-- the tape without what every cursor has passed, save the last ones that are to be kept
abbrev pub trimmed : TapeState → ℕ → TapeState
trimmed tape keep = with_fewer tape (passed tape keep)

-- every cursor has passed so many of the first items
abbrev pub HavePassed : TapeState → ℕ → Type 0
HavePassed tape count = (cursor place : ℕ) → place_of tape.places cursor ≡ Some place → tape.front + count ≤ place
