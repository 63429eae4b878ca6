-- What the history of a subject means: its end, its items, its observers, the signals of each, and what one event more
-- is answered and gives. A history has every event with its port, accepted or refused; only an event that was refused
-- for want of memory is not in it.
-- That a subject ends once, and what a joiner begins with, are those of the pages Observable Contract and Subject
-- (reactivex.io/documentation); moments, numbers and limits are this project's own.
--
-- An observer that left keeps its signals. No signal is added to them once it is held by nobody; so what it was given is told
-- as before, and its line and what waits are cut by one test in the definitions.
use Rattle.std.specs.Prelude.{ℕ, ◌+◌, ◌-◌, ◌==◌, Bool, true, false, ◌&&◌, not, max, nat_lt, nat_le, if◌then◌else◌, List, [], ◌∷◌, ◌++◌, length, map, drop, Option, None, Some, is_some, Result, Ok, Err, option_to_list}
use Rattle.std.specs.List.{list_any, flat_map, filter}
use Rattle.std.specs.Option.{option_map, option_or, option_map_or}
use Rattle.rx_note.specs.declared.text.Text.{Text}
use Rattle.rx_note.specs.declared.item.Item.{Item}
use Rattle.rx_note.specs.declared.given.Given.{Given}
use Rattle.rx_note.specs.declared.note.Note.{Note}
use Rattle.rx_note.specs.declared.note.Note.TheVariants.{Next, Completed, Failed}
use Rattle.rx_note.specs.declared.event.Event.{Event}
use Rattle.rx_note.specs.declared.event.Event.TheVariants.{Emit, Join, Request, Dispose}
use Rattle.rx_note.specs.declared.rules.Rules.{Rules}
use Rattle.rx_note.specs.declared.limits.Limits.{Limits}
use Rattle.rx_note.specs.declared.policy.Policy.{Policy}
use Rattle.rx_note.specs.declared.kind.Kind.{Kind}
use Rattle.rx_note.specs.declared.kind.Kind.TheVariants.{Publish, Behavior, Async, Replay}
use Rattle.rx_note.specs.declared.answer.Answer.{Answer}
use Rattle.rx_note.specs.declared.answer.Answer.TheVariants.{Admitted, Joined, Asked, Left}
use Rattle.rx_note.specs.declared.refusal.Refusal.{Refusal}
use Rattle.rx_note.specs.declared.refusal.Refusal.TheVariants as refused
use Rattle.rx_note.specs.Signals.{Signal, Requested, Offered, Ended, Signals, Start, ◌▸◌, sent, line, given, waiting, owed}

-- an event and the port that it came by
abbrev pub Entry : Type 0
Entry = ℕ × Event

infixl 10 ◌▹◌
-- the events of a subject; the latest stands outermost
pub data History : Type 0 where
  NoEvents : History
  ◌▹◌ : History → Entry → History

-- THE END

-- the terminal in a note
abbrev pub terminal_in : Note → Option Note
terminal_in (Next item) = None
terminal_in Completed = Some Completed
terminal_in (Failed text) = Some (Failed text)

-- the end of a history: its first terminal
abbrev pub end_of : History → Option Note
end_of NoEvents = None
end_of (H ▹ (port, Emit note at)) = option_or (end_of H) (terminal_in note)
end_of (H ▹ (port, Join policy first at)) = end_of H
end_of (H ▹ (port, Request who n)) = end_of H
end_of (H ▹ (port, Dispose who)) = end_of H

-- whether the subject ended
abbrev pub is_ended : History → Bool
is_ended H = is_some (end_of H)

-- whether this end is completion
abbrev pub is_completion : Option Note → Bool
is_completion None = false
is_completion (Some (Next item)) = false
is_completion (Some Completed) = true
is_completion (Some (Failed text)) = false

-- the history up to and with its end
abbrev pub up_to_end : History → History
up_to_end NoEvents = NoEvents
up_to_end (H ▹ entry) = if is_ended H then up_to_end H else H ▹ entry

-- THE OBSERVERS

-- how many Joins were accepted, and the observers that are held, by rising number
pub record Roster : Type 0 where
  pub joins : ℕ
  pub held : List ℕ

-- whether a Join is accepted
abbrev pub admits : Limits → Roster → Bool
admits limits roster = nat_lt (length roster.held) limits.observers && nat_lt roster.joins limits.joins

-- the roster with one observer more, whose number is the count of the Joins before it
abbrev pub with_one_more : Roster → Roster
with_one_more roster = record { joins = roster.joins + 1; held = roster.held ++ roster.joins ∷ [] }

-- the roster without one observer
abbrev pub without_one : ℕ → Roster → Roster
without_one who roster = record roster { held = filter (λ o. not (o == who)) roster.held }

-- the roster that a history leaves
abbrev pub roster_of : Limits → History → Roster
roster_of limits NoEvents = record { joins = 0; held = [] }
roster_of limits (H ▹ (port, Emit note at)) = roster_of limits H
roster_of limits (H ▹ (port, Join policy first at)) =
    if admits limits (roster_of limits H) then with_one_more (roster_of limits H) else roster_of limits H
roster_of limits (H ▹ (port, Request who n)) = roster_of limits H
roster_of limits (H ▹ (port, Dispose who)) = without_one who (roster_of limits H)

-- how many Joins were accepted
abbrev pub joins : Rules → History → ℕ
joins rules H = (roster_of rules.limits H).joins

-- the numbers of the observers that are held
abbrev pub held : Rules → History → List ℕ
held rules H = (roster_of rules.limits H).held

-- whether an observer is held
abbrev pub is_held : Rules → History → ℕ → Bool
is_held rules H o = list_any (λ k. k == o) (held rules H)

-- whether the next Join is accepted
abbrev pub may_join : Rules → History → Bool
may_join rules H = admits rules.limits (roster_of rules.limits H)

-- THE CLOCK AND THE ITEMS

-- whether a note finds room where so many items were accepted before it; terminals are not limited
abbrev pub has_room : Limits → ℕ → Note → Bool
has_room limits count (Next item) = nat_lt count limits.items
has_room limits count Completed = true
has_room limits count (Failed text) = true

-- how many items there are with that of a note
abbrev pub count_with : ℕ → Note → ℕ
count_with count (Next item) = count + 1
count_with count Completed = count
count_with count (Failed text) = count

-- how many items were accepted
abbrev pub item_count : Rules → History → ℕ
item_count rules NoEvents = 0
item_count rules (H ▹ (port, Emit note at)) =
    if not (is_ended H) && has_room rules.limits (item_count rules H) note then count_with (item_count rules H) note else item_count rules H
item_count rules (H ▹ (port, Join policy first at)) = item_count rules H
item_count rules (H ▹ (port, Request who n)) = item_count rules H
item_count rules (H ▹ (port, Dispose who)) = item_count rules H

-- whether an Emit of a note is accepted
abbrev pub accepts : Rules → History → Note → Bool
accepts rules H note = not (is_ended H) && has_room rules.limits (item_count rules H) note

-- the stamp: the greatest moment of the accepted Emits and Joins
abbrev pub stamp : Rules → History → ℕ
stamp rules NoEvents = 0
stamp rules (H ▹ (port, Emit note at)) = if accepts rules H note then max (stamp rules H) at else stamp rules H
stamp rules (H ▹ (port, Join policy first at)) = if may_join rules H then max (stamp rules H) at else stamp rules H
stamp rules (H ▹ (port, Request who n)) = stamp rules H
stamp rules (H ▹ (port, Dispose who)) = stamp rules H

-- an item and the stamp at its place
abbrev pub Stamped : Type 0
Stamped = Item × ℕ

-- the item of a note, as sent from a port at a place
abbrev pub item_in : ℕ → ℕ → Note → List Item
item_in port place (Next item) = record item { from = port; place = place } ∷ []
item_in port place Completed = []
item_in port place (Failed text) = []

-- the items of the accepted Emits, with their stamps; the place of an item is how many were accepted before it
abbrev pub items : Rules → History → List Stamped
items rules NoEvents = []
items rules (H ▹ (port, Emit note at)) =
    if accepts rules H note
    then items rules H ++ map (λ item. (item, max (stamp rules H) at)) (item_in port (item_count rules H) note)
    else items rules H
items rules (H ▹ (port, Join policy first at)) = items rules H
items rules (H ▹ (port, Request who n)) = items rules H
items rules (H ▹ (port, Dispose who)) = items rules H

-- items without their stamps
abbrev pub unstamped : List Stamped → List Item
unstamped stamped = map (λ each. each.0) stamped

-- the last n of several items
abbrev pub newest : ℕ → List Stamped → List Stamped
newest n stamped = drop (length stamped - n) stamped

-- the last item of all, if there is one
abbrev pub last_item : Rules → History → List Item
last_item rules H = unstamped (newest 1 (items rules H))

-- WHAT A JOINER BEGINS WITH

-- the first of two lists that has an item
abbrev pub or_else : List Item → List Item → List Item
or_else [] others = others
or_else (first ∷ rest) others = first ∷ rest

-- the seed as an item; it comes from no port, and has no place
abbrev pub seed_item : Option Text → List Item
seed_item seed = map (λ text. record { from = 4294967295; place = 4294967295; text = text }) (option_to_list seed)

-- whether an age is below a bound; without a bound every age is
abbrev pub is_young : Option ℕ → ℕ → Bool
is_young None age = true
is_young (Some bound) age = nat_lt age bound

-- the items that are young enough at a moment
abbrev pub young : Option ℕ → ℕ → List Stamped → List Stamped
young bound now stamped = filter (λ each. is_young bound (now - each.1)) stamped

-- the last items up to a count; without a count all of them
abbrev pub at_most : Option ℕ → List Stamped → List Stamped
at_most None stamped = stamped
at_most (Some count) stamped = newest count stamped

-- the moment at which ages are told: the stamp z at a Join, and once the subject ended the stamp at its end
abbrev pub age_moment : Rules → History → ℕ → ℕ
age_moment rules H z = if is_ended H then stamp rules (up_to_end H) else z

-- the items offered to a joiner at once, by kind; z is the stamp at its Join
abbrev pub opening_by : Kind → Rules → History → ℕ → List Item
opening_by Publish rules H z = []
opening_by (Behavior seed) rules H z = if is_ended H then [] else or_else (last_item rules H) (seed_item seed)
opening_by Async rules H z = if is_completion (end_of H) then last_item rules H else []
opening_by (Replay count age) rules H z = unstamped (at_most count (young age (age_moment rules H z) (items rules H)))

-- THE SIGNALS OF AN OBSERVER

-- the signals with several that the subject sends; what an overflow cuts off is not among them
abbrev pub followed_by : Signals → List Signal → Signals
followed_by s [] = s
followed_by s (signal ∷ signals) = followed_by (sent s signal) signals

-- a terminal as a signal
abbrev pub ended_by : Option Note → List Signal
ended_by terminal = map Ended (option_to_list terminal)

-- the first signals of an observer that joins after H: its request, the opening items, the end where there is one
abbrev pub opened : Rules → History → Policy → ℕ → ℕ → Signals
opened rules H policy first at =
    followed_by (Start policy ▸ Requested first) (map Offered (opening_by rules.kind rules H (max (stamp rules H) at)) ++ ended_by (end_of H))

-- the items that an accepted note offers, by kind: its own at once, save that Async offers the last item at completion
abbrev pub offers_by : Kind → List Item → ℕ → ℕ → Note → List Item
offers_by Publish last port place note = item_in port place note
offers_by (Behavior seed) last port place note = item_in port place note
offers_by Async last port place note = if is_completion (terminal_in note) then last else []
offers_by (Replay count age) last port place note = item_in port place note

-- the signals of an accepted note: what is offered, and then the end
abbrev pub signalled : Rules → History → ℕ → Note → List Signal
signalled rules H port note =
    map Offered (offers_by rules.kind (last_item rules H) port (item_count rules H) note) ++ ended_by (terminal_in note)

-- whether a request for n more is neither for none nor for too many
abbrev pub may_request : ℕ → Signals → Bool
may_request n s = nat_lt 0 n && nat_le (owed s + n) 4294967295

-- the signals of observer o; None where no accepted Join made it
abbrev pub signals : Rules → History → ℕ → Option Signals
signals rules NoEvents o = None
signals rules (H ▹ (port, Emit note at)) o =
    if is_held rules H o && accepts rules H note then option_map (λ s. followed_by s (signalled rules H port note)) (signals rules H o) else signals rules H o
signals rules (H ▹ (port, Join policy first at)) o =
    if (joins rules H == o) && may_join rules H then Some (opened rules H policy first at) else signals rules H o
signals rules (H ▹ (port, Request who n)) o =
    if (who == o) && is_held rules H o then option_map (λ s. if may_request n s then s ▸ Requested n else s) (signals rules H o) else signals rules H o
signals rules (H ▹ (port, Dispose who)) o = signals rules H o

-- THE HEADLINE: what an observer is to be given, what it was given, what waits for it

-- what observer o was given
abbrev pub given_to : Rules → History → ℕ → List Note
given_to rules H o = option_map_or given (signals rules H o) []

-- all that observer o is to be given; once it is held no more, what it was given
abbrev pub line_of : Rules → History → ℕ → List Note
line_of rules H o = if is_held rules H o then option_map_or line (signals rules H o) [] else given_to rules H o

-- what waits for observer o; once it is held no more, nothing
abbrev pub waiting_for : Rules → History → ℕ → List Note
waiting_for rules H o = if is_held rules H o then option_map_or waiting (signals rules H o) [] else []

-- how many more items may be given to observer o
abbrev pub owed_to : Rules → History → ℕ → ℕ
owed_to rules H o = option_map_or owed (signals rules H o) 0

-- ONE EVENT MORE

-- what an event is answered after H
abbrev pub answer : Rules → History → Event → Result Answer Refusal
answer rules H (Emit note at) =
    if is_ended H then Err refused.Ended
    else (if has_room rules.limits (item_count rules H) note then Ok Admitted else Err refused.Spent)
answer rules H (Join policy first at) =
    if not (nat_lt (length (held rules H)) rules.limits.observers) then Err refused.Full
    else (if nat_lt (joins rules H) rules.limits.joins then Ok (Joined (joins rules H)) else Err refused.Spent)
answer rules H (Request who n) =
    if n == 0 then Err refused.ZeroRequest
    else (if not (is_held rules H who) then Err refused.NoObserver
    else (if nat_le (owed_to rules H who + n) 4294967295 then Ok Asked else Err refused.TooMuch))
answer rules H (Dispose who) = if is_held rules H who then Ok Left else Err refused.NoObserver

-- notes addressed to an observer
abbrev pub addressed : ℕ → List Note → List Given
addressed o notes = map (λ note. record { who = o; note = note }) notes

-- what an entry gives: to each observer then held, by rising number, what it was not given before
abbrev pub outs : Rules → History → Entry → List Given
outs rules H entry =
    flat_map (λ o. addressed o (drop (length (given_to rules H o)) (given_to rules (H ▹ entry) o))) (held rules (H ▹ entry))
