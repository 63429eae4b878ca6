-- What a follower tells tiles the places of each server: each item once, in its order, and each gap (this project's own rule).
use Rattle.std.specs.Prelude.{◌≡◌, ◌≤◌, ◌+◌, ℕ, List, [], ◌∷◌, Option, None, Some, slice_get}
use Rattle.std.specs.List.{All}
use Rattle.rx_client.specs.Following.{Event, Hears, after_all, tells_all}
use Rattle.rx_client.specs.declared.follower.Follower.{Follower}
use Rattle.rx_client.specs.declared.heard.Heard.TheVariants as heard
use Rattle.rx_client.specs.declared.told.Told.{Told}
use Rattle.rx_client.specs.declared.told.Told.TheVariants.{Item, Seed, Missed, MissedFrom, Lost, Overflow, Done, Failed}

-- a place is the one that is to come next, or none was known
abbrev pub IsNext : Option ℕ → ℕ → Type 0
IsNext None place = Unit {0}
IsNext (Some next) place = next ≡ place

-- the place that is to come next is this one, or none was known
abbrev pub Reaches : Option ℕ → Option ℕ → Type 0
Reaches None last = Unit {0}
Reaches (Some next) last = Some next ≡ last

-- from one place to another each place is told, once and in order, as an item or as missed; those of another server begin at 0
abbrev pub Tiles : Option ℕ → List Told → Option ℕ → Type 0
Tiles next [] last = Reaches next last
Tiles next (Item place from text ∷ more) last = IsNext next place × Tiles (Some (place + 1)) more last
Tiles next (Missed first final ∷ more) last = IsNext next first × (first ≤ final) × Tiles (Some (final + 1)) more last
Tiles next (MissedFrom place ∷ more) last = IsNext next place × Tiles next more last
Tiles next (Lost place ∷ more) last = Tiles (Some 0) more last
Tiles next (Seed text ∷ more) last = Tiles next more last
Tiles next (Overflow ∷ more) last = Tiles next more last
Tiles next (Done ∷ more) last = Tiles next more last
Tiles next (Failed text ∷ more) last = Tiles next more last

-- EACH ITEM ONCE: whatever a follower hears, and at whichever servers
abbrev pub EachOnce : Type 0
EachOnce = (f : Follower) (events : List Event) → Tiles f.next (tells_all f events) (after_all f events).next

-- an item that is told stands among what was heard
abbrev pub IsAmong : List Event → Told → Type 0
IsAmong events (Item place from text) = (i : ℕ) × (slice_get events i ≡ Some (Hears (heard.Item place from text)))
IsAmong events _ = Unit {0}

-- NOTHING ELSE: each item that is told was heard
abbrev pub NothingElse : Type 0
NothingElse = (f : Follower) (events : List Event) → All (IsAmong events) (tells_all f events)
