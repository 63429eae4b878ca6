-- Each item that a follower tells stands among what it heard.
use Rattle.std.proofs.Common.{◌-◌, ℕ, suc, Bool, true, false, List, [], ◌∷◌, ◌++◌, Option, None, Some, refl, if◌then◌else◌}
use Rattle.std.proofs.lemmas.List.Elements.{All-append, All-cons, All-nil, All-weaker}
use Rattle.std.specs.List.{All}
use Rattle.rx_client.specs.Following.{Event, Joins, Hears, after, tells, tells_all, listed, telling, tells_item, gap_before, is_known, is_same, is_too_slow, lost_with, end_gap, gap_at_end}
use Rattle.rx_client.specs.Tiling.{IsAmong}
use Rattle.rx_client.specs.declared.epoch.Epoch.{Epoch}
use Rattle.rx_client.specs.declared.follower.Follower.{Follower}
use Rattle.rx_client.specs.declared.heard.Heard.TheVariants as heard
use Rattle.rx_client.specs.declared.told.Told.{Told}
use Rattle.rx_client.specs.declared.told.Told.TheVariants.{Item, Seed, Missed, MissedFrom, Lost, Overflow, Done, Failed}
use Rattle.std.specs.Prelude.{nat_lt, unwrap_or}

-- with one more event before them
with-one : (event : Event) (events : List Event) (told : Told) → IsAmong events told → IsAmong (event ∷ events) told
with-one event events (Item place from text) is = (suc is.0, is.1)
with-one event events (Seed text) is = tt
with-one event events (Missed first last) is = tt
with-one event events (MissedFrom place) is = tt
with-one event events (Lost place) is = tt
with-one event events Overflow is = tt
with-one event events Done is = tt
with-one event events (Failed text) is = tt

one : (events : List Event) (told : Told) → IsAmong events told → All (IsAmong events) (told ∷ [])
one events told is = All-cons (IsAmong events) told [] is (All-nil (IsAmong events))

-- a gap is no item
gaps : (events : List Event) (next : Option ℕ) (is_offered : Bool) → All (IsAmong events) (listed (gap_at_end is_offered next))
gaps events None is_offered = All-nil (IsAmong events)
gaps events (Some n) true = All-nil (IsAmong events)
gaps events (Some n) false = one events (MissedFrom n) tt

missed : (events : List Event) (awaited place : ℕ) → All (IsAmong events) (listed (gap_before awaited place))
missed events awaited place =
    elim (nat_lt awaited place) as (λ b. All (IsAmong events) (listed (if b then Some (Missed awaited (place - 1)) else None))) [
      | true ↦ one events (Missed awaited (place - 1)) tt
      | false ↦ All-nil (IsAmong events)
    ]

items : (events : List Event) (next : Option ℕ) (place : ℕ) (item : Told) → IsAmong events item
    → All (IsAmong events) (listed (tells_item next place item).gap ++ listed (tells_item next place item).note)
items events next place item is =
    elim (is_known next place) as (λ b.
    All (IsAmong events) (listed (if b then telling None None else telling (gap_before (unwrap_or next place) place) (Some item)).gap
    ++ listed (if b then telling None None else telling (gap_before (unwrap_or next place) place) (Some item)).note)) [
      | true ↦ All-nil (IsAmong events)
      | false ↦ All-append (IsAmong events) (listed (gap_before (unwrap_or next place) place)) (item ∷ []) (missed events (unwrap_or next place) place) (one events item is)
    ]

servers : (events : List Event) (next : Option ℕ) (server : Epoch) (known : Option Epoch) → All (IsAmong events) (listed (lost_with next server known))
servers events next server None = All-nil (IsAmong events)
servers events next server (Some known) =
    elim (is_same known server) as (λ b. All (IsAmong events) (listed (if b then None else Some (Lost (unwrap_or next 0))))) [
      | true ↦ All-nil (IsAmong events)
      | false ↦ one events (Lost (unwrap_or next 0)) tt
    ]

failures : (events : List Event) (f : Follower) (text : _) (slow : Bool)
    → All (IsAmong events) (listed (if slow then telling None (Some Overflow) else telling (end_gap f) (Some (Failed text))).gap
    ++ listed (if slow then telling None (Some Overflow) else telling (end_gap f) (Some (Failed text))).note)
failures events f text true = one events Overflow tt
failures events f text false = All-append (IsAmong events) (listed (end_gap f)) (Failed text ∷ []) (gaps events f.next f.is_offered) (one events (Failed text) tt)

seeds : (events : List Event) (text : _) (heard : Bool) → All (IsAmong events) (listed (if heard then None else Some (Seed text)))
seeds events text true = All-nil (IsAmong events)
seeds events text false = one events (Seed text) tt

event-among : (f : Follower) (event : Event) (events : List Event) → All (IsAmong (event ∷ events)) (tells f event)
event-among f (Joins server) events = servers (Joins server ∷ events) f.next server f.server
event-among f (Hears (heard.Item place from text)) events =
    items (Hears (heard.Item place from text) ∷ events) f.next place (Item place from text) (0, refl)
event-among f (Hears (heard.Seed text)) events = seeds (Hears (heard.Seed text) ∷ events) text f.heard_seed
event-among f (Hears heard.Done) events =
    All-append (IsAmong (Hears heard.Done ∷ events)) (listed (end_gap f)) (Done ∷ []) (gaps (Hears heard.Done ∷ events) f.next f.is_offered) (one (Hears heard.Done ∷ events) Done tt)
event-among f (Hears (heard.Failed text)) events = failures (Hears (heard.Failed text) ∷ events) f text (is_too_slow f text.now)

pub run-among : (f : Follower) (events : List Event) → All (IsAmong events) (tells_all f events)
run-among f [] = All-nil (IsAmong [])
run-among f (event ∷ events) =
    All-append (IsAmong (event ∷ events)) (tells f event) (tells_all (after f event) events) (event-among f event events)
    (All-weaker (IsAmong events) (IsAmong (event ∷ events)) (with-one event events) (tells_all (after f event) events) (run-among (after f event) events))
