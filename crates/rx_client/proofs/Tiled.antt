-- What a follower tells tiles the places of each server.
use Rattle.std.proofs.Common.{◌≡◌, ◌+◌, ◌-◌, ℕ, Bool, true, false, List, [], ◌∷◌, ◌++◌, Option, None, Some, refl, sym, subst, inl, inr, arith, if◌then◌else◌}
use Rattle.std.proofs.lemmas.Bool.{cases_lt, lt-ltb, le-ltb}
use Rattle.std.specs.Prelude.{nat_lt}
use Rattle.rx_client.specs.Following.{Event, Joins, Hears, after, after_all, tells, tells_all, listed, telling, tells_item, next_behind, lost_with, next_at, end_gap, gap_at_end, is_same, is_too_slow}
use Rattle.rx_client.specs.Tiling.{Reaches, Tiles}
use Rattle.rx_client.specs.declared.epoch.Epoch.{Epoch}
use Rattle.rx_client.specs.declared.follower.Ending.TheVariants as endings
use Rattle.rx_client.specs.declared.follower.Follower.{Follower}
use Rattle.rx_client.specs.declared.heard.Heard.TheVariants as heard
use Rattle.rx_client.specs.declared.told.Told.{Told}
use Rattle.rx_client.specs.declared.told.Told.TheVariants.{Item, Seed, Missed, MissedFrom, Lost, Overflow, Done, Failed}

-- where nothing is known of the first place less is asked
any-tiles : (told : List Told) (next last : Option ℕ) → Tiles next told last → Tiles None told last
any-tiles [] next last tiles = tt
any-tiles (Item place from text ∷ more) next last tiles = (tt, tiles.1)
any-tiles (Missed first final ∷ more) next last tiles = (tt, tiles.1, tiles.2)
any-tiles (MissedFrom place ∷ more) next last tiles = (tt, any-tiles more next last tiles.1)
any-tiles (Lost place ∷ more) next last tiles = tiles
any-tiles (Seed text ∷ more) next last tiles = any-tiles more next last tiles
any-tiles (Overflow ∷ more) next last tiles = any-tiles more next last tiles
any-tiles (Done ∷ more) next last tiles = any-tiles more next last tiles
any-tiles (Failed text ∷ more) next last tiles = any-tiles more next last tiles

from-there : (told : List Told) (a b last : Option ℕ) → Reaches a b → Tiles b told last → Tiles a told last
from-there told None b last reached tiles = any-tiles told b last tiles
from-there told (Some next) b last reached tiles = subst (λ (o : Option ℕ). Tiles o told last) (sym reached) tiles

-- one run behind another
tiles-then : (xs ys : List Told) (a b last : Option ℕ) → Tiles a xs b → Tiles b ys last → Tiles a (xs ++ ys) last
tiles-then [] ys a b last first later = from-there ys a b last first later
tiles-then (Item place from text ∷ xs) ys a b last first later = (first.0, tiles-then xs ys (Some (place + 1)) b last first.1 later)
tiles-then (Missed low high ∷ xs) ys a b last first later = (first.0, first.1, tiles-then xs ys (Some (high + 1)) b last first.2 later)
tiles-then (MissedFrom place ∷ xs) ys a b last first later = (first.0, tiles-then xs ys a b last first.1 later)
tiles-then (Lost place ∷ xs) ys a b last first later = tiles-then xs ys (Some 0) b last first later
tiles-then (Seed text ∷ xs) ys a b last first later = tiles-then xs ys a b last first later
tiles-then (Overflow ∷ xs) ys a b last first later = tiles-then xs ys a b last first later
tiles-then (Done ∷ xs) ys a b last first later = tiles-then xs ys a b last first later
tiles-then (Failed text ∷ xs) ys a b last first later = tiles-then xs ys a b last first later

reaches-same : (a : Option ℕ) → Reaches a a
reaches-same None = tt
reaches-same (Some n) = refl

-- ONE EVENT

-- an item: it was told before, or it is told behind a gap, if there is one
abbrev ItemTiles : Option ℕ → Told → ℕ → Type 0
ItemTiles next item place = Tiles next (listed (tells_item next place item).gap ++ listed (tells_item next place item).note) (next_behind next place)

item-tiles : (next : Option ℕ) (place from : ℕ) (text : _) → ItemTiles next (Item place from text) place
item-tiles None place from text =
    let low : nat_lt place place ≡ false = le-ltb place place (omega arith) in
    rw low (tt, refl)
item-tiles (Some n) place from text =
    elim (cases_lt place n) [
      | inl below ↦ (let known : nat_lt place n ≡ true = lt-ltb place n below in rw known refl)
      | inr above ↦ (let new : nat_lt place n ≡ false = le-ltb place n above in
          elim (cases_lt n place) [
            | inl gap ↦ (let some : nat_lt n place ≡ true = lt-ltb n place gap in
                let last : place - 1 + 1 ≡ place = omega arith in
                rw (new, some) (refl, omega arith, (last, refl)))
            | inr most ↦ (let none : nat_lt n place ≡ false = le-ltb n place most in
                let same : n ≡ place = omega arith in
                rw (new, none) (same, refl))
          ])
    ]

-- a server: it is the same one, or its places begin at 0
server-tiles : (next : Option ℕ) (server : Epoch) (known : Option Epoch) → Tiles next (listed (lost_with next server known)) (next_at next server known)
server-tiles next server None = reaches-same next
server-tiles None server (Some known) = elim (is_same known server) as (λ b. Tiles None (listed (if b then None else Some (Lost 0))) (if b then Some 0 else Some 0)) [ true ↦ tt | false ↦ refl ]
server-tiles (Some n) server (Some known) =
    elim (is_same known server) as (λ b. Tiles (Some n) (listed (if b then None else Some (Lost n))) (if b then Some n else Some 0)) [ true ↦ refl | false ↦ refl ]

-- an end, with what may be missed before it
end-tiles : (is_offered : Bool) (next : Option ℕ) (note : Told) → ((a : Option ℕ) → Tiles a (note ∷ []) a) → Tiles next (listed (gap_at_end is_offered next) ++ note ∷ []) next
end-tiles is_offered None note one = one None
end-tiles true (Some n) note one = one (Some n)
end-tiles false (Some n) note one = (refl, one (Some n))

failed-tiles : (slow : Bool) (f : Follower) (text : _) →
    Tiles f.next (listed (if slow then telling None (Some Overflow) else telling (end_gap f) (Some (Failed text))).gap
    ++ listed (if slow then telling None (Some Overflow) else telling (end_gap f) (Some (Failed text))).note)
    (if slow then record f { heard_more = false; ending = endings.Again } else record f { ending = endings.Failed }).next
failed-tiles true f text = reaches-same f.next
failed-tiles false f text = end-tiles f.is_offered f.next (Failed text) reaches-same

seed-tiles : (heard : Bool) (next : Option ℕ) (text : _) → Tiles next (listed (if heard then None else Some (Seed text))) next
seed-tiles true next text = reaches-same next
seed-tiles false next text = reaches-same next

event-tiles : (f : Follower) (event : Event) → Tiles f.next (tells f event) (after f event).next
event-tiles f (Joins server) = server-tiles f.next server f.server
event-tiles f (Hears (heard.Item place from text)) = item-tiles f.next place from text
event-tiles f (Hears (heard.Seed text)) = seed-tiles f.heard_seed f.next text
event-tiles f (Hears heard.Done) = end-tiles f.is_offered f.next Done reaches-same
event-tiles f (Hears (heard.Failed text)) = failed-tiles (is_too_slow f text.now) f text

-- A RUN

pub run-tiles : (f : Follower) (events : List Event) → Tiles f.next (tells_all f events) (after_all f events).next
run-tiles f [] = reaches-same f.next
run-tiles f (event ∷ events) =
    tiles-then (tells f event) (tells_all (after f event) events) f.next (after f event).next (after_all (after f event) events).next
    (event-tiles f event) (run-tiles (after f event) events)
