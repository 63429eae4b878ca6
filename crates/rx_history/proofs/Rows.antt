-- The worked examples, by computation: what each event is answered and gives, and what is owed at the end.
use Rattle.std.specs.Prelude.{◌≡◌, ℕ, List, [], ◌∷◌, map, None, Some, Result, Ok, Err, refl}
use Rattle.rx_note.specs.Choices.{choice}
use Rattle.rx_note.specs.declared.policy.Policy.{Policy}
use Rattle.rx_note.specs.declared.strategy.Strategy.TheVariants.{Buffer, Drop, Latest, Bounded}
use Rattle.rx_note.specs.declared.errors.Errors.{Errors}
use Rattle.rx_note.specs.declared.errors.Errors.TheVariants.{Ahead, Delay}
use Rattle.rx_note.specs.declared.given.Given.{Given}
use Rattle.rx_note.specs.declared.note.Note.{Note}
use Rattle.rx_note.specs.declared.note.Note.TheVariants.{Next, Completed, Failed}
use Rattle.rx_note.specs.declared.event.Event.{Event}
use Rattle.rx_note.specs.declared.event.Event.TheVariants.{Emit, Join, Request, Dispose}
use Rattle.rx_note.specs.declared.rules.Rules.{Rules}
use Rattle.rx_note.specs.declared.kind.Kind.{Kind}
use Rattle.rx_note.specs.declared.kind.Kind.TheVariants.{Publish, Behavior, Async, Replay}
use Rattle.rx_note.specs.declared.answer.Answer.{Answer}
use Rattle.rx_note.specs.declared.answer.Answer.TheVariants.{Admitted, Joined, Asked, Left}
use Rattle.rx_note.specs.declared.refusal.Refusal.{Refusal}
use Rattle.rx_note.specs.declared.refusal.Refusal.TheVariants as refused
use Rattle.rx_history.specs.Histories.{History, NoEvents, ◌▹◌, owed_to, answer, outs}
use Rattle.rx_history.specs.Stored.{history_of}
use Rattle.rx_note.specs.Signals.{overflow}

-- the steps of a list of events after H, all from port 0
abbrev told : Rules → History → List Event → List (Result Answer Refusal × List Given)
told rules H [] = []
told rules H (event ∷ events) = (answer rules H event, outs rules H (0, event)) ∷ told rules (H ▹ (0, event)) events

-- the history of a list of events, all from port 0
abbrev from0 : List Event → History
from0 events = history_of (map (λ event. (0, event)) events)

-- the default subject
abbrev default : Rules
default = record { kind = Publish; limits = record { observers = 64; joins = 4294967295; items = 4294967295 } }

-- the same with another kind
abbrev of_kind : Kind → Rules
of_kind kind = record default { kind = kind }

-- Buffer and Delay
abbrev plain : Policy
plain = choice Buffer Delay

-- Buffer and Ahead
abbrev ahead : Policy
ahead = choice Buffer Ahead

-- Bounded with this room and an error mode
abbrev bounded : ℕ → Errors → Policy
bounded room errors = choice (Bounded room) errors

-- Drop, or Latest, with this room, and Delay
abbrev dropping : ℕ → Policy
dropping room = choice (Drop room) Delay

abbrev latest : ℕ → Policy
latest room = choice (Latest room) Delay

-- the texts a, b, c, d, e, x, z
abbrev a : List ℕ
a = 97 ∷ []

abbrev b : List ℕ
b = 98 ∷ []

abbrev c : List ℕ
c = 99 ∷ []

abbrev d : List ℕ
d = 100 ∷ []

abbrev e : List ℕ
e = 101 ∷ []

abbrev x : List ℕ
x = 120 ∷ []

abbrev z : List ℕ
z = 122 ∷ []

-- an item is emitted from port 0, at a moment, whatever port and place it names
abbrev emits_at : ℕ → List ℕ → Event
emits_at at text = Emit (Next (record { from = 7; place = 7; text = text })) at

abbrev emits : List ℕ → Event
emits text = emits_at 0 text

-- an observer joins with Buffer and Delay and a first request of nine items, at a moment
abbrev joins_at : ℕ → Event
joins_at at = Join plain 9 at

-- an item of port 0, at a place
abbrev next : ℕ → List ℕ → Note
next place text = Next (record { from = 0; place = place; text = text })

-- the seed as a note
abbrev seeded : List ℕ → Note
seeded text = Next (record { from = 4294967295; place = 4294967295; text = text })

-- a note given to observer 0, 1, 2
abbrev to0 : Note → Given
to0 note = record { who = 0; note = note }

abbrev to1 : Note → Given
to1 note = record { who = 1; note = note }

abbrev to2 : Note → Given
to2 note = record { who = 2; note = note }

first_run : told default NoEvents
    (Join plain 0 0 ∷ emits a ∷ emits b ∷ Request 0 1 ∷ Emit Completed 0 ∷ Request 0 5 ∷ [])
    ≡ ((Ok (Joined 0), []) ∷ (Ok Admitted, []) ∷ (Ok Admitted, []) ∷ (Ok Asked, to0 (next 0 a) ∷ []) ∷ (Ok Admitted, [])
    ∷ (Ok Asked, to0 (next 1 b) ∷ to0 Completed ∷ []) ∷ [])
first_run = refl

error_delayed : told default NoEvents
    (Join plain 1 0 ∷ emits a ∷ emits b ∷ emits c ∷ Emit (Failed x) 0 ∷ Request 0 2 ∷ [])
    ≡ ((Ok (Joined 0), []) ∷ (Ok Admitted, to0 (next 0 a) ∷ []) ∷ (Ok Admitted, []) ∷ (Ok Admitted, []) ∷ (Ok Admitted, [])
    ∷ (Ok Asked, to0 (next 1 b) ∷ to0 (next 2 c) ∷ to0 (Failed x) ∷ []) ∷ [])
error_delayed = refl

error_ahead : told default NoEvents
    (Join ahead 1 0 ∷ emits a ∷ emits b ∷ emits c ∷ Emit (Failed x) 0 ∷ Request 0 3 ∷ [])
    ≡ ((Ok (Joined 0), []) ∷ (Ok Admitted, to0 (next 0 a) ∷ []) ∷ (Ok Admitted, []) ∷ (Ok Admitted, [])
    ∷ (Ok Admitted, to0 (Failed x) ∷ []) ∷ (Ok Asked, []) ∷ [])
error_ahead = refl

replay_of_a_failed_subject : told (of_kind (Replay None None)) NoEvents
    (emits a ∷ Emit (Failed x) 0 ∷ Join ahead 0 0 ∷ Join plain 0 0 ∷ Request 1 1 ∷ [])
    ≡ ((Ok Admitted, []) ∷ (Ok Admitted, []) ∷ (Ok (Joined 0), to0 (Failed x) ∷ []) ∷ (Ok (Joined 1), [])
    ∷ (Ok Asked, to1 (next 0 a) ∷ to1 (Failed x) ∷ []) ∷ [])
replay_of_a_failed_subject = refl

held_and_joined_limits : told (record default { limits = record { observers = 1; joins = 2; items = 4294967295 } }) NoEvents
    (Join plain 0 0 ∷ Join plain 0 0 ∷ Dispose 0 ∷ Join plain 0 0 ∷ Dispose 1 ∷ Join plain 0 0 ∷ Dispose 1 ∷ [])
    ≡ ((Ok (Joined 0), []) ∷ (Err refused.Full, []) ∷ (Ok Left, []) ∷ (Ok (Joined 1), []) ∷ (Ok Left, [])
    ∷ (Err refused.Spent, []) ∷ (Err refused.NoObserver, []) ∷ [])
held_and_joined_limits = refl

refused_join_keeps_the_window : told (record { kind = Replay None (Some 10); limits = record { observers = 1; joins = 4294967295; items = 4294967295 } }) NoEvents
    (emits_at 0 a ∷ joins_at 0 ∷ joins_at 50 ∷ Dispose 0 ∷ joins_at 5 ∷ [])
    ≡ ((Ok Admitted, []) ∷ (Ok (Joined 0), to0 (next 0 a) ∷ []) ∷ (Err refused.Full, []) ∷ (Ok Left, [])
    ∷ (Ok (Joined 1), to1 (next 0 a) ∷ []) ∷ [])
refused_join_keeps_the_window = refl

refusals_in_order : told default NoEvents
    (Join plain 0 0 ∷ Request 0 0 ∷ Request 7 0 ∷ Request 0 4294967295 ∷ Request 0 1 ∷ Request 7 1 ∷ Emit Completed 0
    ∷ emits a ∷ [])
    ≡ ((Ok (Joined 0), []) ∷ (Err refused.ZeroRequest, []) ∷ (Err refused.ZeroRequest, []) ∷ (Ok Asked, [])
    ∷ (Err refused.TooMuch, []) ∷ (Err refused.NoObserver, []) ∷ (Ok Admitted, to0 Completed ∷ []) ∷ (Err refused.Ended, []) ∷ [])
refusals_in_order = refl

drop_zero_honours_demand : told default NoEvents (Join (dropping 0) 0 0 ∷ emits a ∷ Request 0 1 ∷ emits b ∷ [])
    ≡ ((Ok (Joined 0), []) ∷ (Ok Admitted, []) ∷ (Ok Asked, []) ∷ (Ok Admitted, to0 (next 1 b) ∷ []) ∷ [])
drop_zero_honours_demand = refl

abbrev drop_two_events : List Event
drop_two_events = Join (dropping 2) 0 0 ∷ emits a ∷ emits b ∷ emits c ∷ emits d ∷ emits e ∷ Request 0 9 ∷ []

drop_two : told default NoEvents drop_two_events
    ≡ ((Ok (Joined 0), []) ∷ (Ok Admitted, []) ∷ (Ok Admitted, []) ∷ (Ok Admitted, []) ∷ (Ok Admitted, []) ∷ (Ok Admitted, [])
    ∷ (Ok Asked, to0 (next 0 a) ∷ to0 (next 1 b) ∷ []) ∷ [])
drop_two = refl

drop_two-owed : owed_to default (from0 drop_two_events) 0 ≡ 7
drop_two-owed = refl

abbrev latest_two_events : List Event
latest_two_events = Join (latest 2) 1 0 ∷ emits a ∷ emits b ∷ emits c ∷ emits d ∷ Request 0 5 ∷ emits e ∷ []

latest_two : told default NoEvents latest_two_events
    ≡ ((Ok (Joined 0), []) ∷ (Ok Admitted, to0 (next 0 a) ∷ []) ∷ (Ok Admitted, []) ∷ (Ok Admitted, []) ∷ (Ok Admitted, [])
    ∷ (Ok Asked, to0 (next 2 c) ∷ to0 (next 3 d) ∷ []) ∷ (Ok Admitted, to0 (next 4 e) ∷ []) ∷ [])
latest_two = refl

latest_two-owed : owed_to default (from0 latest_two_events) 0 ≡ 2
latest_two-owed = refl

latest_one_then_done : told default NoEvents (Join (latest 1) 0 0 ∷ emits a ∷ emits b ∷ Emit Completed 0 ∷ Request 0 1 ∷ [])
    ≡ ((Ok (Joined 0), []) ∷ (Ok Admitted, []) ∷ (Ok Admitted, []) ∷ (Ok Admitted, [])
    ∷ (Ok Asked, to0 (next 1 b) ∷ to0 Completed ∷ []) ∷ [])
latest_one_then_done = refl

behavior_before_and_after_end : told (of_kind (Behavior (Some z))) NoEvents
    (joins_at 0 ∷ emits a ∷ joins_at 0 ∷ Emit Completed 0 ∷ joins_at 0 ∷ [])
    ≡ ((Ok (Joined 0), to0 (seeded z) ∷ []) ∷ (Ok Admitted, to0 (next 0 a) ∷ []) ∷ (Ok (Joined 1), to1 (next 0 a) ∷ [])
    ∷ (Ok Admitted, to0 Completed ∷ to1 Completed ∷ []) ∷ (Ok (Joined 2), to2 Completed ∷ []) ∷ [])
behavior_before_and_after_end = refl

async_last_item : told (of_kind Async) NoEvents (Join plain 1 0 ∷ emits a ∷ emits b ∷ Emit Completed 0 ∷ Join plain 1 0 ∷ [])
    ≡ ((Ok (Joined 0), []) ∷ (Ok Admitted, []) ∷ (Ok Admitted, []) ∷ (Ok Admitted, to0 (next 1 b) ∷ to0 Completed ∷ [])
    ∷ (Ok (Joined 1), to1 (next 1 b) ∷ to1 Completed ∷ []) ∷ [])
async_last_item = refl

async_empty : told (of_kind Async) NoEvents (Join plain 1 0 ∷ Emit Completed 0 ∷ [])
    ≡ ((Ok (Joined 0), []) ∷ (Ok Admitted, to0 Completed ∷ []) ∷ [])
async_empty = refl

async_failed : told (of_kind Async) NoEvents (Join plain 1 0 ∷ emits a ∷ Emit (Failed x) 0 ∷ [])
    ≡ ((Ok (Joined 0), []) ∷ (Ok Admitted, []) ∷ (Ok Admitted, to0 (Failed x) ∷ []) ∷ [])
async_failed = refl

replay_count_into_drop : told (of_kind (Replay (Some 2) None)) NoEvents
    (emits a ∷ emits b ∷ emits c ∷ Join (dropping 1) 0 0 ∷ Request 0 2 ∷ [])
    ≡ ((Ok Admitted, []) ∷ (Ok Admitted, []) ∷ (Ok Admitted, []) ∷ (Ok (Joined 0), []) ∷ (Ok Asked, to0 (next 1 b) ∷ []) ∷ [])
replay_count_into_drop = refl

replay_age_stops_at_the_end : told (of_kind (Replay None (Some 10))) NoEvents
    (emits_at 0 a ∷ emits_at 5 b ∷ emits_at 10 c ∷ joins_at 10 ∷ joins_at 15 ∷ Emit Completed 15 ∷ joins_at 1000 ∷ [])
    ≡ ((Ok Admitted, []) ∷ (Ok Admitted, []) ∷ (Ok Admitted, []) ∷ (Ok (Joined 0), to0 (next 1 b) ∷ to0 (next 2 c) ∷ [])
    ∷ (Ok (Joined 1), to1 (next 2 c) ∷ []) ∷ (Ok Admitted, to0 Completed ∷ to1 Completed ∷ [])
    ∷ (Ok (Joined 2), to2 (next 2 c) ∷ to2 Completed ∷ []) ∷ [])
replay_age_stops_at_the_end = refl

stamps_never_fall : told (of_kind (Replay None (Some 10))) NoEvents (emits_at 20 a ∷ emits_at 5 b ∷ joins_at 29 ∷ joins_at 30 ∷ [])
    ≡ ((Ok Admitted, []) ∷ (Ok Admitted, []) ∷ (Ok (Joined 0), to0 (next 0 a) ∷ to0 (next 1 b) ∷ []) ∷ (Ok (Joined 1), []) ∷ [])
stamps_never_fall = refl

publish_after_its_end : told default NoEvents (Join plain 1 0 ∷ Emit Completed 0 ∷ Join plain 1 0 ∷ [])
    ≡ ((Ok (Joined 0), []) ∷ (Ok Admitted, to0 Completed ∷ []) ∷ (Ok (Joined 1), to1 Completed ∷ []) ∷ [])
publish_after_its_end = refl

replay_by_both_bounds : told (of_kind (Replay (Some 2) (Some 10))) NoEvents
    (emits_at 0 a ∷ emits_at 5 b ∷ emits_at 6 c ∷ emits_at 7 d ∷ joins_at 9 ∷ joins_at 16 ∷ [])
    ≡ ((Ok Admitted, []) ∷ (Ok Admitted, []) ∷ (Ok Admitted, []) ∷ (Ok Admitted, [])
    ∷ (Ok (Joined 0), to0 (next 2 c) ∷ to0 (next 3 d) ∷ []) ∷ (Ok (Joined 1), to1 (next 3 d) ∷ []) ∷ [])
replay_by_both_bounds = refl

overflow_delayed : told default NoEvents
    (Join (bounded 1 Delay) 1 0 ∷ emits a ∷ emits b ∷ emits c ∷ emits d ∷ Request 0 1 ∷ Emit Completed 0 ∷ [])
    ≡ ((Ok (Joined 0), []) ∷ (Ok Admitted, to0 (next 0 a) ∷ []) ∷ (Ok Admitted, []) ∷ (Ok Admitted, []) ∷ (Ok Admitted, [])
    ∷ (Ok Asked, to0 (next 1 b) ∷ to0 overflow ∷ []) ∷ (Ok Admitted, []) ∷ [])
overflow_delayed = refl

overflow_ahead : told default NoEvents (Join (bounded 1 Ahead) 1 0 ∷ emits a ∷ emits b ∷ emits c ∷ Request 0 1 ∷ [])
    ≡ ((Ok (Joined 0), []) ∷ (Ok Admitted, to0 (next 0 a) ∷ []) ∷ (Ok Admitted, []) ∷ (Ok Admitted, to0 overflow ∷ []) ∷ (Ok Asked, []) ∷ [])
overflow_ahead = refl

overflow_room_zero : told default NoEvents (Join (bounded 0 Delay) 0 0 ∷ Join plain 9 0 ∷ emits a ∷ [])
    ≡ ((Ok (Joined 0), []) ∷ (Ok (Joined 1), []) ∷ (Ok Admitted, to0 overflow ∷ to1 (next 0 a) ∷ []) ∷ [])
overflow_room_zero = refl

overflow_in_the_opening : told (of_kind (Replay None None)) NoEvents (emits a ∷ emits b ∷ Join (bounded 1 Delay) 0 0 ∷ Request 0 2 ∷ [])
    ≡ ((Ok Admitted, []) ∷ (Ok Admitted, []) ∷ (Ok (Joined 0), []) ∷ (Ok Asked, to0 (next 0 a) ∷ to0 overflow ∷ []) ∷ [])
overflow_in_the_opening = refl

two_items_and_the_end : told (record { kind = Behavior (Some z); limits = record { observers = 64; joins = 4294967295; items = 2 } }) NoEvents
    (joins_at 0 ∷ emits a ∷ emits b ∷ emits c ∷ Emit Completed 0 ∷ emits d ∷ [])
    ≡ ((Ok (Joined 0), to0 (seeded z) ∷ []) ∷ (Ok Admitted, to0 (next 0 a) ∷ []) ∷ (Ok Admitted, to0 (next 1 b) ∷ [])
    ∷ (Err refused.Spent, []) ∷ (Ok Admitted, to0 Completed ∷ []) ∷ (Err refused.Ended, []) ∷ [])
two_items_and_the_end = refl
