-- The laws of delivery: what every observer of every history can rely on.
-- Order, and that nothing follows a terminal, are those of the Observable Contract
-- (reactivex.io/documentation/contract.html); that a request bounds what is given is that of the Backpressure operators
-- (reactivex.io/documentation/operators/backpressure.html); that a room bounds what waits, and that an overflow ends one
-- observer alone, are this project's own.
--
-- The law of an error ahead speaks of an observer that is held when the error is emitted. One that joins a failed subject by
-- Ahead is given of its opening what its first request releases, and then the error.
--
-- The law that offers are in order speaks of the seed and the accepted items, since a seed is no accepted item; and an Async
-- subject has a law of its own in place of the one that each item is offered.
use Rattle.std.specs.Prelude.{◌≡◌, ℕ, ◌+◌, ◌<◌, ◌≤◌, ◌==◌, Bool, true, false, not, if◌then◌else◌, List, [], ◌∷◌, ◌++◌, length, map, Option, None, Some, is_some, option_to_list, ◌⊎◌}
use Rattle.std.specs.List.{filter, items_where_true}
use Rattle.std.specs.Option.{option_map, option_map_or}
use Rattle.rx_note.specs.declared.given.Given.{Given}
use Rattle.rx_note.specs.declared.item.Item.{Item}
use Rattle.rx_note.specs.declared.note.Note.{Note}
use Rattle.rx_note.specs.declared.note.Note.TheVariants.{Next, Completed, Failed}
use Rattle.rx_note.specs.declared.event.Event.TheVariants.{Emit, Dispose}
use Rattle.rx_note.specs.declared.rules.Rules.{Rules}
use Rattle.rx_note.specs.declared.kind.Kind.{Kind}
use Rattle.rx_note.specs.declared.kind.Kind.TheVariants.{Publish, Behavior, Async, Replay}
use Rattle.rx_note.specs.declared.strategy.Strategy.{Strategy}
use Rattle.rx_note.specs.declared.strategy.Strategy.TheVariants.{Buffer, Drop, Latest, Bounded}
use Rattle.rx_note.specs.declared.text.Text.{Text}
use Rattle.rx_note.specs.declared.errors.Errors.{Errors}
use Rattle.rx_note.specs.declared.errors.Errors.TheVariants.{Ahead, Delay}
use Rattle.rx_note.specs.Choices.{Choice}
use Rattle.rx_note.specs.Signals.{Requested, Offered, Ended, Signals, Start, ◌▸◌, policy_of, demand, kept, terminal_of, may_overflow, overflow, overflows, goes_ahead}
use Rattle.rx_history.specs.Histories.{Entry, History, ◌▹◌, terminal_in, end_of, is_ended, is_completion, joins, is_held, item_count, accepts, item_in, items, unstamped, last_item, seed_item, signals, given_to, line_of, waiting_for, owed_to, outs}

-- THE WORDS

-- the items among notes
abbrev pub items_among : List Note → List Item
items_among [] = []
items_among (Next item ∷ notes) = item ∷ items_among notes
items_among (Completed ∷ notes) = items_among notes
items_among (Failed text ∷ notes) = items_among notes

-- a note is a terminal
abbrev pub IsTerminal : Note → Type 0
IsTerminal note = is_some (terminal_in note) ≡ true

-- the notes addressed to observer o, in their order
abbrev pub notes_for : ℕ → List Given → List Note
notes_for o [] = []
notes_for o (given ∷ more) = if given.who == o then given.note ∷ notes_for o more else notes_for o more

-- the items that were offered to an observer with these signals
abbrev pub offered : Signals → List Item
offered (Start policy) = []
offered (s ▸ Requested n) = offered s
offered (s ▸ Offered item) = offered s ++ item ∷ []
offered (s ▸ Ended terminal) = offered s

-- the items that were offered to observer o
abbrev pub offered_to : Rules → History → ℕ → List Item
offered_to rules H o = option_map_or offered (signals rules H o) []

-- how many items observer o requested
abbrev pub requested_by : Rules → History → ℕ → ℕ
requested_by rules H o = option_map_or demand (signals rules H o) 0

-- the policy that observer o joined with
abbrev pub policy_by : Rules → History → ℕ → Option Choice
policy_by rules H o = option_map policy_of (signals rules H o)

-- the strategy of that policy
abbrev pub strategy_by : Rules → History → ℕ → Option Strategy
strategy_by rules H o = option_map (λ policy. policy.strategy) (policy_by rules H o)

-- the error mode of that policy
abbrev pub errors_by : Rules → History → ℕ → Option Errors
errors_by rules H o = option_map (λ policy. policy.errors) (policy_by rules H o)

-- the end of observer o, once it has one: its subject's, or an overflow
abbrev pub end_for : Rules → History → ℕ → Option Note
end_for rules H o = option_map_or terminal_of (signals rules H o) None

-- whether an item more would overflow for observer o
abbrev pub overflows_now : Rules → History → ℕ → Bool
overflows_now rules H o = option_map_or overflows (signals rules H o) false

-- whether an overflow may end observer o
abbrev pub is_bounded : Rules → History → ℕ → Bool
is_bounded rules H o = option_map_or may_overflow (strategy_by rules H o) false

-- whether each item that is offered is kept, by strategy
abbrev pub loses_nothing : Strategy → Bool
loses_nothing Buffer = true
loses_nothing (Drop room) = false
loses_nothing (Latest room) = false
loses_nothing (Bounded room) = true

-- whether signals have an end that goes ahead of the items that wait
abbrev pub ends_ahead : Signals → Bool
ends_ahead s = option_map_or (goes_ahead (policy_of s).errors) (terminal_of s) false

-- whether observer o has such an end
abbrev pub went_ahead : Rules → History → ℕ → Bool
went_ahead rules H o = option_map_or ends_ahead (signals rules H o) false

-- the items of the accepted Emits
abbrev pub emitted : Rules → History → List Item
emitted rules H = unstamped (items rules H)

-- the seed of a subject, where it has one
abbrev pub seed_of : Kind → List Item
seed_of Publish = []
seed_of (Behavior seed) = seed_item seed
seed_of Async = []
seed_of (Replay count age) = []

-- all the items that a subject can give: its seed, and then the items of the accepted Emits
abbrev pub all_items : Rules → History → List Item
all_items rules H = seed_of rules.kind ++ emitted rules H

-- whether a kind offers each item as it comes
abbrev pub offers_at_once : Kind → Bool
offers_at_once Publish = true
offers_at_once (Behavior seed) = true
offers_at_once Async = false
offers_at_once (Replay count age) = true

-- the items of one port
abbrev pub of_port : ℕ → List Item → List Item
of_port port xs = filter (λ item. item.from == port) xs

-- the some stand among all in the same order, each at a place of its own: a mask over all says which
abbrev pub IsSubsequence : List Item → List Item → Type 0
IsSubsequence some all = (mask : List Bool) × (length mask ≡ length all) × (some ≡ items_where_true mask all)

-- EACH ITEM ONCE AND IN ORDER

-- the items of a line are items offered to the observer, in their order and none twice
abbrev pub LineIsInOrder : Type 0
LineIsInOrder = (rules : Rules) (H : History) (o : ℕ) → IsSubsequence (items_among (line_of rules H o)) (offered_to rules H o)

-- the items offered to an observer are the seed and items of the accepted Emits, in their order and none twice
abbrev pub OffersAreInOrder : Type 0
OffersAreInOrder = (rules : Rules) (H : History) (o : ℕ) → IsSubsequence (offered_to rules H o) (all_items rules H)

-- so that the items of each port come in that port's order
abbrev pub EachPortIsInOrder : Type 0
EachPortIsInOrder =
    (rules : Rules) (H : History) (o port : ℕ) → IsSubsequence (of_port port (items_among (line_of rules H o))) (of_port port (all_items rules H))

-- but for Async, an item that is accepted is offered to every observer that is held and has no end yet, unless it overflows
abbrev pub EachItemIsOffered : Type 0
EachItemIsOffered =
    (rules : Rules) (H : History) (o port : ℕ) (note : Note) (at : ℕ) → offers_at_once rules.kind ≡ true → is_held rules H o ≡ true
    → accepts rules H note ≡ true → end_for rules H o ≡ None → overflows_now rules H o ≡ false
    → offered_to rules (H ▹ (port, Emit note at)) o ≡ offered_to rules H o ++ item_in port (item_count rules H) note

-- of an Async subject an observer that is held is offered the last item alone, and only once the subject completed,
-- whether it joined before that or after; but to one by Bounded the item may overflow
abbrev pub AsyncOffersTheLast : Type 0
AsyncOffersTheLast =
    (rules : Rules) (H : History) (o : ℕ) → rules.kind ≡ Async → is_held rules H o ≡ true → is_bounded rules H o ≡ false
    → offered_to rules H o ≡ (if is_completion (end_of H) then last_item rules H else [])

-- PLACES

-- places from n on, one after the other
abbrev pub AreCounted : ℕ → List Item → Type 0
AreCounted n [] = Unit {0}
AreCounted n (item ∷ items) = (item.place ≡ n) × AreCounted (n + 1) items

-- places from n on, each above the one before
abbrev pub Rise : ℕ → List Item → Type 0
Rise n [] = Unit {0}
Rise n (item ∷ items) = (n ≤ item.place) × Rise (item.place + 1) items

-- items without a seed
abbrev pub unseeded : List Item → List Item
unseeded items = filter (λ item. not (item.place == 4294967295)) items

-- the place of an accepted item is how many were accepted before it, and there are no more than the limit
abbrev pub PlacesAreCounted : Type 0
PlacesAreCounted =
    (rules : Rules) (H : History)
    → AreCounted 0 (emitted rules H) × (length (emitted rules H) ≡ item_count rules H) × (item_count rules H ≤ rules.limits.items)

-- so that along a line the places rise, the seed left out
abbrev pub PlacesRise : Type 0
PlacesRise = (rules : Rules) (H : History) (o : ℕ) → Rise 0 (unseeded (items_among (line_of rules H o)))

-- GIVEN AND WAITING

-- what was given, and then what waits, is the line
abbrev pub GivenThenWaiting : Type 0
GivenThenWaiting = (rules : Rules) (H : History) (o : ℕ) → given_to rules H o ++ waiting_for rules H o ≡ line_of rules H o

-- what was given is never taken back: an event adds notes behind it
abbrev pub GivenOnlyGrows : Type 0
GivenOnlyGrows =
    (rules : Rules) (H : History) (o : ℕ) (entry : Entry) → (notes : List Note) × (given_to rules (H ▹ entry) o ≡ given_to rules H o ++ notes)

-- what an entry gives to an observer is what it is given more
abbrev pub OutsAreGiven : Type 0
OutsAreGiven =
    (rules : Rules) (H : History) (o : ℕ) (entry : Entry) → given_to rules (H ▹ entry) o ≡ given_to rules H o ++ notes_for o (outs rules H entry)

-- NOTHING FOLLOWS A TERMINAL

-- a terminal stands in a line at its end alone
abbrev pub TerminalIsLast : Type 0
TerminalIsLast =
    (rules : Rules) (H : History) (o : ℕ) (front : List Note) (note : Note) (back : List Note) → IsTerminal note
    → line_of rules H o ≡ front ++ note ∷ back → back ≡ []

-- except by Bounded, the line of an observer that is held is its items, and then the end of the subject where there is one
abbrev pub LineEndsAsTheSubject : Type 0
LineEndsAsTheSubject =
    (rules : Rules) (H : History) (o : ℕ) → is_held rules H o ≡ true → is_bounded rules H o ≡ false
    → line_of rules H o ≡ map Next (items_among (line_of rules H o)) ++ option_to_list (end_of H)

-- by any strategy it is its items, and then its own end: as the subject's, or an overflow
abbrev pub EndsAsTheSubjectOrOverflows : Type 0
EndsAsTheSubjectOrOverflows =
    (rules : Rules) (H : History) (o : ℕ) → is_held rules H o ≡ true
    → (line_of rules H o ≡ map Next (items_among (line_of rules H o)) ++ option_to_list (end_for rules H o))
    × ((end_for rules H o ≡ end_of H) ⊎ (end_for rules H o ≡ Some overflow))

-- whatever comes then, an observer that has an end keeps that end, and is offered nothing more
abbrev pub EndStays : Type 0
EndStays =
    (rules : Rules) (H : History) (o : ℕ) (entry : Entry) (end : Note) → end_for rules H o ≡ Some end
    → (end_for rules (H ▹ entry) o ≡ Some end) × (offered_to rules (H ▹ entry) o ≡ offered_to rules H o)

-- once a terminal was given, nothing more is
abbrev pub NothingFollowsATerminal : Type 0
NothingFollowsATerminal =
    (rules : Rules) (H : History) (o : ℕ) (front : List Note) (note : Note) (entry : Entry) → IsTerminal note
    → given_to rules H o ≡ front ++ note ∷ [] → given_to rules (H ▹ entry) o ≡ given_to rules H o

-- once the subject ended and nothing waits, nothing more is given to an observer that is held
abbrev pub NothingFollowsTheEnd : Type 0
NothingFollowsTheEnd =
    (rules : Rules) (H : History) (o : ℕ) (entry : Entry) → is_held rules H o ≡ true → is_ended H ≡ true
    → waiting_for rules H o ≡ [] → given_to rules (H ▹ entry) o ≡ given_to rules H o

-- an error that is emitted is given at once to an observer by Ahead that is held and has no end yet, whatever it requested,
-- and nothing waits for it any more
abbrev pub ErrorGoesAhead : Type 0
ErrorGoesAhead =
    (rules : Rules) (H : History) (o port : ℕ) (text : Text) (at : ℕ) → is_held rules H o ≡ true → errors_by rules H o ≡ Some Ahead
    → end_for rules H o ≡ None
    → (given_to rules (H ▹ (port, Emit (Failed text) at)) o ≡ given_to rules H o ++ Failed text ∷ [])
    × (waiting_for rules (H ▹ (port, Emit (Failed text) at)) o ≡ [])

-- AN OVERFLOW

-- but for Async, an item that overflows ends the observer by that; it is not offered
abbrev pub OverflowEndsIt : Type 0
OverflowEndsIt =
    (rules : Rules) (H : History) (o port : ℕ) (item : Item) (at : ℕ) → offers_at_once rules.kind ≡ true → is_held rules H o ≡ true
    → accepts rules H (Next item) ≡ true → end_for rules H o ≡ None → overflows_now rules H o ≡ true
    → (end_for rules (H ▹ (port, Emit (Next item) at)) o ≡ Some overflow)
    × (offered_to rules (H ▹ (port, Emit (Next item) at)) o ≡ offered_to rules H o)

-- by Delay the overflow comes behind all that the observer was to be given
abbrev pub OverflowStaysBehind : Type 0
OverflowStaysBehind =
    (rules : Rules) (H : History) (o port : ℕ) (item : Item) (at : ℕ) → offers_at_once rules.kind ≡ true → is_held rules H o ≡ true
    → accepts rules H (Next item) ≡ true → errors_by rules H o ≡ Some Delay → end_for rules H o ≡ None → overflows_now rules H o ≡ true
    → line_of rules (H ▹ (port, Emit (Next item) at)) o ≡ line_of rules H o ++ overflow ∷ []

-- by Ahead it is given at once, and nothing waits for the observer any more
abbrev pub OverflowGoesAhead : Type 0
OverflowGoesAhead =
    (rules : Rules) (H : History) (o port : ℕ) (item : Item) (at : ℕ) → offers_at_once rules.kind ≡ true → is_held rules H o ≡ true
    → accepts rules H (Next item) ≡ true → errors_by rules H o ≡ Some Ahead → end_for rules H o ≡ None → overflows_now rules H o ≡ true
    → (given_to rules (H ▹ (port, Emit (Next item) at)) o ≡ given_to rules H o ++ overflow ∷ [])
    × (waiting_for rules (H ▹ (port, Emit (Next item) at)) o ≡ [])

-- THE DISPOSED

-- an observer that leaves is given nothing by that, nothing waits for it any more, and its line is what it was given
abbrev pub DisposeDiscards : Type 0
DisposeDiscards =
    (rules : Rules) (H : History) (o port : ℕ)
    → (given_to rules (H ▹ (port, Dispose o)) o ≡ given_to rules H o)
    × (waiting_for rules (H ▹ (port, Dispose o)) o ≡ [])
    × (line_of rules (H ▹ (port, Dispose o)) o ≡ given_to rules H o)

-- whatever comes then, it is given nothing more, and it is not held again
abbrev pub NothingFollowsADispose : Type 0
NothingFollowsADispose =
    (rules : Rules) (H : History) (o : ℕ) (entry : Entry) → o < joins rules H → is_held rules H o ≡ false
    → (given_to rules (H ▹ entry) o ≡ given_to rules H o) × (is_held rules (H ▹ entry) o ≡ false)

-- BOUNDED WAITING

-- the items given and those owed are as many as were requested
abbrev pub GivenAndOwed : Type 0
GivenAndOwed =
    (rules : Rules) (H : History) (o : ℕ) → length (items_among (given_to rules H o)) + owed_to rules H o ≡ requested_by rules H o

-- so that no more items are given than were requested
abbrev pub GivenWithinRequests : Type 0
GivenWithinRequests = (rules : Rules) (H : History) (o : ℕ) → length (items_among (given_to rules H o)) ≤ requested_by rules H o

-- nothing is held back: while an item is owed, nothing waits
abbrev pub NothingWaitsWhileOwed : Type 0
NothingWaitsWhileOwed = (rules : Rules) (H : History) (o : ℕ) → 0 < owed_to rules H o → waiting_for rules H o ≡ []

-- under Drop, Latest and Bounded no more items wait than there is room for
abbrev pub WaitsWithinRoom : Type 0
WaitsWithinRoom =
    (rules : Rules) (H : History) (o room : ℕ)
    → (strategy_by rules H o ≡ Some (Drop room)) ⊎ (strategy_by rules H o ≡ Some (Latest room)) ⊎ (strategy_by rules H o ≡ Some (Bounded room))
    → length (items_among (waiting_for rules H o)) ≤ room

-- under Buffer and Bounded every item offered is kept, for all signals of an observer
abbrev pub KeptIsAll : Type 0
KeptIsAll = (s : Signals) → loses_nothing (policy_of s).strategy ≡ true → kept s ≡ offered s

-- under Buffer and Bounded every item offered is in the line, as long as no end went ahead of those that waited
abbrev pub KeepsAll : Type 0
KeepsAll =
    (rules : Rules) (H : History) (o : ℕ) → is_held rules H o ≡ true → option_map loses_nothing (strategy_by rules H o) ≡ Some true
    → went_ahead rules H o ≡ false → items_among (line_of rules H o) ≡ offered_to rules H o
