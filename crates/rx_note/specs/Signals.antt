-- The signals of one observer: what it requested, what its subject offered to it, and the end, in their order.
-- From them follow the line that it is to be given in all, what of the line was given, and what waits.
-- Demand and the end are those of the Observable Contract (reactivex.io/documentation/contract.html), strategies those
-- of the Backpressure operators (reactivex.io/documentation/operators/backpressure.html); rooms and losses are this
-- project's own words. That an error may go ahead of what waits is an operator's word (reactivex.io/documentation/operators/observeon.html).
--
-- Losses are the greatest excess at any prefix, found in one count along the signals, and where they rise one place is lost.
-- The code never counts: it looks whether its queue is full. That both come to the same is proved, for Drop and for Latest
-- (`crates/rx_note/proofs/Kept.antt`).
--
-- Under Drop the item just offered is lost, under Latest the oldest that waits, each where the losses rise: with nothing owed
-- and a full room. The other strategies of the Backpressure page that need a clock or other operators are left out.
--
-- The line is cut by the demand. What was given is the first so many items of the line, and its ending once these are all. So
-- a body that keeps everything waiting is refused.
--
-- Whether an item overflows is told by counts alone, of items offered and requested: under Bounded nothing is lost before an
-- end, so these tell how many wait. The code looks whether its queue is full; that both come to the same is proved
-- (`crates/rx_note/proofs/Sending.antt`).
use Rattle.std.specs.Prelude.{ℕ, ◌+◌, ◌-◌, max, Bool, true, false, if◌then◌else◌, ◌==◌, nat_lt, nat_le, List, [], ◌∷◌, ◌++◌, length, map, take, drop, Option, None, Some, is_some, option_to_list, codes}
use Rattle.std.specs.List.{list_any}
use Rattle.rx_note.specs.declared.item.Item.{Item}
use Rattle.rx_note.specs.declared.note.Note.{Note}
use Rattle.rx_note.specs.declared.note.Note.TheVariants.{Next, Completed, Failed}
use Rattle.rx_note.specs.declared.strategy.Strategy.{Strategy}
use Rattle.rx_note.specs.declared.strategy.Strategy.TheVariants.{Buffer, Drop, Latest, Bounded}
use Rattle.rx_note.specs.declared.errors.Errors.{Errors}
use Rattle.rx_note.specs.declared.errors.Errors.TheVariants.{Ahead, Delay}
use Rattle.rx_note.specs.declared.policy.Policy.{Policy}

-- one signal: n more items are requested, an item is offered, or the subject ended by this terminal
pub data Signal : Type 0 where
  Requested : (n : ℕ) → Signal
  Offered : (item : Item) → Signal
  Ended : (terminal : Note) → Signal

infixl 10 ◌▸◌
-- the signals of an observer that joined with this policy; the latest signal stands outermost
pub data Signals : Type 0 where
  Start : (policy : Policy) → Signals
  ◌▸◌ : Signals → Signal → Signals

-- the policy that the observer joined with
abbrev pub policy_of : Signals → Policy
policy_of (Start policy) = policy
policy_of (s ▸ signal) = policy_of s

-- how many items were requested in all
abbrev pub demand : Signals → ℕ
demand (Start policy) = 0
demand (s ▸ Requested n) = demand s + n
demand (s ▸ Offered item) = demand s
demand (s ▸ Ended terminal) = demand s

-- how many items were offered; the next item offered bears this number, its place
abbrev pub offered_count : Signals → ℕ
offered_count (Start policy) = 0
offered_count (s ▸ Requested n) = offered_count s
offered_count (s ▸ Offered item) = offered_count s + 1
offered_count (s ▸ Ended terminal) = offered_count s

-- the terminal, if there was one
abbrev pub terminal_of : Signals → Option Note
terminal_of (Start policy) = None
terminal_of (s ▸ Requested n) = terminal_of s
terminal_of (s ▸ Offered item) = terminal_of s
terminal_of (s ▸ Ended terminal) = Some terminal

-- the error by which an overflow ends an observer
abbrev pub overflow : Note
overflow = Failed (codes "OVERFLOW")

-- whether a strategy may end its observer by an overflow
abbrev pub may_overflow : Strategy → Bool
may_overflow Buffer = false
may_overflow (Drop room) = false
may_overflow (Latest room) = false
may_overflow (Bounded room) = true

-- whether so many items ahead of the demand end an observer of a strategy
abbrev pub are_too_many : Strategy → ℕ → Bool
are_too_many Buffer ahead = false
are_too_many (Drop room) ahead = false
are_too_many (Latest room) ahead = false
are_too_many (Bounded room) ahead = nat_lt room ahead

-- whether an item more would overflow
abbrev pub overflows : Signals → Bool
overflows s = are_too_many (policy_of s).strategy (offered_count s + 1 - demand s)

-- the signals with one that the subject sends: behind an end there is nothing more, and in the place of the first item that
-- overflows stands the end that it is
abbrev pub sent : Signals → Signal → Signals
sent s (Requested n) = s ▸ Requested n
sent s (Offered item) =
    if is_some (terminal_of s) then s
    else (if overflows s then s ▸ Ended overflow else s ▸ Offered item)
sent s (Ended terminal) = if is_some (terminal_of s) then s else s ▸ Ended terminal

-- by how many of the items ahead of the demand the room is exceeded
abbrev pub beyond_room : Strategy → ℕ → ℕ
beyond_room Buffer ahead = 0
beyond_room (Drop room) ahead = ahead - room
beyond_room (Latest room) ahead = ahead - room
beyond_room (Bounded room) ahead = 0

-- by how many items the offers are ahead of the demand and of the room
abbrev pub excess : Signals → ℕ
excess s = beyond_room (policy_of s).strategy (offered_count s - demand s)

-- how many items are lost: the greatest excess that there ever was
abbrev pub losses : Signals → ℕ
losses (Start policy) = 0
losses (s ▸ signal) = max (losses s) (excess (s ▸ signal))

-- the place lost where the losses rise: with Drop that of the item just offered, with Latest that of the oldest waiting
abbrev pub place_lost : Strategy → Signals → ℕ
place_lost Buffer s = 0
place_lost (Drop room) s = offered_count s - 1
place_lost (Latest room) s = demand s + losses s - 1
place_lost (Bounded room) s = 0

-- the places lost: one wherever the losses rise
abbrev pub lost_places : Signals → List ℕ
lost_places (Start policy) = []
lost_places (s ▸ signal) =
    if nat_lt (losses s) (losses (s ▸ signal))
    then lost_places s ++ place_lost (policy_of s).strategy (s ▸ signal) ∷ []
    else lost_places s

-- whether a place is among those lost
abbrev pub is_lost : List ℕ → ℕ → Bool
is_lost lost place = list_any (λ p. p == place) lost

-- the items offered, in their order, without those at the lost places
abbrev pub without : List ℕ → Signals → List Item
without lost (Start policy) = []
without lost (s ▸ Requested n) = without lost s
without lost (s ▸ Offered item) =
    if is_lost lost (offered_count s) then without lost s else without lost s ++ item ∷ []
without lost (s ▸ Ended terminal) = without lost s

-- the items that the strategy keeps
abbrev pub kept : Signals → List Item
kept s = without (lost_places s) s

-- whether a terminal goes ahead of the items that wait, which are then never given
abbrev pub goes_ahead : Errors → Note → Bool
goes_ahead Delay terminal = false
goes_ahead Ahead (Next item) = false
goes_ahead Ahead Completed = false
goes_ahead Ahead (Failed text) = true

-- the items of the line: those kept; an error that goes ahead leaves of them only what was requested before it
abbrev pub line_items : Signals → List Item
line_items (Start policy) = []
line_items (s ▸ Requested n) = line_items s
line_items (s ▸ Offered item) = kept (s ▸ Offered item)
line_items (s ▸ Ended terminal) =
    if goes_ahead (policy_of s).errors terminal then take (demand s) (kept s) else kept s

-- the terminal as the last part of a line
abbrev pub ending : Signals → List Note
ending s = option_to_list (terminal_of s)

-- the line: all that the observer is to be given
abbrev pub line : Signals → List Note
line s = map Next (line_items s) ++ ending s

-- what a demand for n items releases: the first n items, and the ending once these are all
abbrev pub released : ℕ → List Item → List Note → List Note
released n items last = map Next (take n items) ++ (if nat_le (length items) n then last else [])

-- what the observer was given
abbrev pub given : Signals → List Note
given s = released (demand s) (line_items s) (ending s)

-- the items that wait for a request
abbrev pub waiting_items : Signals → List Item
waiting_items s = drop (demand s) (line_items s)

-- the terminal, where it waits behind items
abbrev pub waiting_end : Signals → List Note
waiting_end s = if nat_le (length (line_items s)) (demand s) then [] else ending s

-- what waits
abbrev pub waiting : Signals → List Note
waiting s = map Next (waiting_items s) ++ waiting_end s

-- how many more items may be given: those requested less those given
abbrev pub owed : Signals → ℕ
owed s = demand s - length (take (demand s) (line_items s))
