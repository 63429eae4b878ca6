-- What the sinks left that were put away, kept or not (this project's own rule).
--
-- What the sinks left: contracts see the whole list of what was put away left, kept or not. A drainer keeps it until its end,
-- unless it was told to `forget`: then what a sink leaves is let go as it is put away, and takes no room. No turn changes
-- which; where it is kept, `as_slice` answers all of it, and else none.
use Rattle.std.specs.Prelude.{◌≡◌, ◌+◌, ◌≤◌, ℕ, Bool, true, List, length}
use Rattle.rx_sink.specs.declared.put_away.PutAway.{PutAway}

-- what they left, in the order in which they were put away: all of it, whether it is kept, and for how many there is room then
pub record RestsView (Rest : Type 0) : Type 0 where
  pub items : List (PutAway Rest)
  pub keeps : Bool
  pub room : ℕ

module _ {Rest : Type 0} where
  -- so many more can be put away: where they are not kept none needs room
  abbrev pub HasRoomFor : ℕ → RestsView Rest → Type 0
  HasRoomFor n rests = rests.keeps ≡ true → length rests.items + n ≤ rests.room
