-- What contracts see of the items that wait.
use Rattle.std.specs.Prelude.{ℕ, ◌-◌, ◌≤◌, nat_le, Bool, false, List, []}
use Rattle.std.specs.VecDeque.{deque_len, deque_capacity}
use Rattle.rx_note.specs.declared.item.Item.{Item}
use Rattle.rx_note.specs.declared.strategy.Strategy.{Strategy}
use Rattle.rx_note.specs.declared.strategy.Strategy.TheVariants.{Buffer, Drop, Latest, Bounded}
use Rattle.rx_lane.specs.declared.queue.Queue.{Queue}
use Rattle.rx_lane.specs.declared.queue.Queue.TheVariants.{Growing, Empty, Dropping, Replacing, Bounding}

-- the strategy: a ring's capacity is the room
abbrev pub strategy_of : Queue → Strategy
strategy_of (Growing items) = Buffer
strategy_of Empty = Drop 0
strategy_of (Dropping ring) = Drop ring.capacity
strategy_of (Replacing ring) = Latest ring.capacity
strategy_of (Bounding ring) = Bounded ring.capacity

-- the items, the one that has waited longest first
abbrev pub items_of : Queue → List Item
items_of (Growing items) = items.items
items_of Empty = []
items_of (Dropping ring) = ring.items
items_of (Replacing ring) = ring.items
items_of (Bounding ring) = ring.items

-- how many items more a growing queue takes before it needs memory
abbrev pub spare_of : Queue → ℕ
spare_of (Growing items) = deque_capacity items - deque_len items
spare_of Empty = 0
spare_of (Dropping ring) = 0
spare_of (Replacing ring) = 0
spare_of (Bounding ring) = 0

-- so many items more need no memory: a queue of a bounded strategy never needs any
abbrev pub NeedsNoMemory : Strategy → ℕ → ℕ → Type 0
NeedsNoMemory Buffer count spare = count ≤ spare
NeedsNoMemory (Drop room) count spare = Unit {0}
NeedsNoMemory (Latest room) count spare = Unit {0}
NeedsNoMemory (Bounded room) count spare = Unit {0}

-- whether a strategy that loses what comes has its room full
abbrev pub is_full : Strategy → ℕ → Bool
is_full Buffer count = false
is_full (Drop room) count = nat_le room count
is_full (Latest room) count = false
is_full (Bounded room) count = false

-- whether a strategy that ends by what comes has its room full
abbrev pub overfills : Strategy → ℕ → Bool
overfills Buffer count = false
overfills (Drop room) count = false
overfills (Latest room) count = false
overfills (Bounded room) count = nat_le room count
