-- What becomes of the items that wait when an item more is offered that is not owed.
use Rattle.std.specs.Prelude.{◌+◌, ◌-◌, nat_lt, List, [], ◌∷◌, ◌++◌, length, drop, if◌then◌else◌}
use Rattle.rx_note.specs.declared.item.Item.{Item}
use Rattle.rx_note.specs.declared.strategy.Strategy.{Strategy}
use Rattle.rx_note.specs.declared.strategy.Strategy.TheVariants.{Buffer, Drop, Latest, Bounded}

-- with Buffer and Bounded it waits; with Drop it does where the room is not full; with Latest the newest wait that there is
-- room for. (Under Bounded an item that finds the room full is not offered: an overflow stands in its place.)
abbrev pub queued : Strategy → List Item → Item → List Item
queued Buffer items item = items ++ item ∷ []
queued (Drop room) items item = if nat_lt (length items) room then items ++ item ∷ [] else items
queued (Latest room) items item = drop (length items + 1 - room) (items ++ item ∷ [])
queued (Bounded room) items item = items ++ item ∷ []
