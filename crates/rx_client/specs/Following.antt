-- What a follower tells of what it hears, over connections that end and servers that begin anew (this project's own rule).
use Rattle.std.specs.Prelude.{◌+◌, ◌-◌, ◌==◌, ◌&&◌, ◌||◌, ℕ, Bool, true, false, not, nat_lt, List, [], ◌∷◌, ◌++◌, codes, Option, None, Some, unwrap_or, if◌then◌else◌}
use Rattle.rx_proto.specs.Reading.{same_word}
use Rattle.rx_client.specs.declared.epoch.Epoch.{Epoch}
use Rattle.rx_client.specs.declared.follower.Ending.TheVariants as endings
use Rattle.rx_client.specs.declared.follower.Follower.{Follower}
use Rattle.rx_client.specs.declared.heard.Heard.{Heard}
use Rattle.rx_client.specs.declared.heard.Heard.TheVariants as heard
use Rattle.rx_client.specs.declared.told.Telling.{Telling}
use Rattle.rx_client.specs.declared.told.Told.{Told}
use Rattle.rx_client.specs.declared.told.Told.TheVariants.{Item, Seed, Missed, MissedFrom, Lost, Overflow, Done, Failed}

-- a follower that has heard nothing
abbrev pub new_follower : Option ℕ → Bool → Follower
new_follower from may_overflow = record {
  server = None;
  next = from;
  may_overflow = may_overflow;
  is_offered = false;
  heard_seed = false;
  heard_more = true;
  ending = endings.Open;
}

-- A SERVER

-- two epochs are of one server
abbrev pub is_same : Epoch → Epoch → Bool
is_same a b = (a.made == b.made) && (a.file == b.file)

-- what is told where the server that was known before, if any, is another one
abbrev pub lost_with : Option ℕ → Epoch → Option Epoch → Option Told
lost_with next server None = None
lost_with next server (Some known) = if is_same known server then None else Some (Lost (unwrap_or next 0))

-- what is told of having joined at a server
abbrev pub tells_joined : Follower → Epoch → Option Told
tells_joined f server = lost_with f.next server f.server

-- the place that is to come next, at this server: behind that of another one it is its first
abbrev pub next_at : Option ℕ → Epoch → Option Epoch → Option ℕ
next_at next server None = next
next_at next server (Some known) = if is_same known server then Some (unwrap_or next 0) else Some 0

-- whether the seed of this server was told
abbrev pub seed_at : Bool → Epoch → Option Epoch → Bool
seed_at heard server None = heard
seed_at heard server (Some known) = if is_same known server then heard else false

-- the follower once it has joined at a server
abbrev pub after_joined : Follower → Epoch → Follower
after_joined f server = record f {
  server = Some server;
  next = next_at f.next server f.server;
  is_offered = false;
  heard_seed = seed_at f.heard_seed server f.server;
  ending = endings.Open;
}

-- A LINE

-- an error that says that its observer was too slow
abbrev pub is_overflow : List ℕ → Bool
is_overflow text = same_word text (codes "OVERFLOW")

-- what is told before an item at a place, where that of another one was awaited
abbrev pub gap_before : ℕ → ℕ → Option Told
gap_before awaited place = if nat_lt awaited place then Some (Missed awaited (place - 1)) else None

-- what is told before an end, where no item was offered since it joined: there may have been some
abbrev pub gap_at_end : Bool → Option ℕ → Option Told
gap_at_end is_offered None = None
gap_at_end is_offered (Some next) = if is_offered then None else Some (MissedFrom next)

-- the same of a follower
abbrev pub end_gap : Follower → Option Told
end_gap f = gap_at_end f.is_offered f.next

abbrev pub telling : Option Told → Option Told → Telling
telling gap note = record { gap = gap; note = note }

-- an error is that of a follower that was too slow
abbrev pub is_too_slow : Follower → List ℕ → Bool
is_too_slow f text = f.may_overflow && f.heard_more && is_overflow text

-- an item of a place was told before: another one is awaited
abbrev pub is_known : Option ℕ → ℕ → Bool
is_known next place = nat_lt place (unwrap_or next place)

-- what is told of an item of a place
abbrev pub tells_item : Option ℕ → ℕ → Told → Telling
tells_item next place item = if is_known next place then telling None None else telling (gap_before (unwrap_or next place) place) (Some item)

-- the place that is to come next behind an item of a place
abbrev pub next_behind : Option ℕ → ℕ → Option ℕ
next_behind next place = if is_known next place then next else Some (place + 1)

-- what is told of what was heard
abbrev pub tells_heard : Follower → Heard → Telling
tells_heard f (heard.Item place from text) = tells_item f.next place (Item place from text)
tells_heard f (heard.Seed text) = telling None (if f.heard_seed then None else Some (Seed text))
tells_heard f heard.Done = telling (end_gap f) (Some Done)
tells_heard f (heard.Failed text) = if is_too_slow f text.now then telling None (Some Overflow) else telling (end_gap f) (Some (Failed text))

-- the follower behind it
abbrev pub after_heard : Follower → Heard → Follower
after_heard f (heard.Item place from text) =
    record f { next = next_behind f.next place; is_offered = true; heard_more = not (is_known f.next place) || f.heard_more }
after_heard f (heard.Seed text) = record f { is_offered = true; heard_seed = true }
after_heard f heard.Done = record f { ending = endings.Done }
after_heard f (heard.Failed text) =
    if is_too_slow f text.now then record f { heard_more = false; ending = endings.Again }
    else record f { ending = endings.Failed }

-- A RUN

-- what a follower is told of: that it has joined, or a line
pub data Event : Type 0 where
  Joins : Epoch → Event
  Hears : Heard → Event

-- what may be told, as a list
abbrev pub listed : {A : Type 0} → Option A → List A
listed None = []
listed (Some x) = x ∷ []

-- what is told of one event
abbrev pub tells : Follower → Event → List Told
tells f (Joins server) = listed (tells_joined f server)
tells f (Hears heard) = listed (tells_heard f heard).gap ++ listed (tells_heard f heard).note

-- the follower behind it
abbrev pub after : Follower → Event → Follower
after f (Joins server) = after_joined f server
after f (Hears heard) = after_heard f heard

-- what is told of several events
abbrev pub tells_all : Follower → List Event → List Told
tells_all f [] = []
tells_all f (event ∷ events) = tells f event ++ tells_all (after f event) events

-- the follower behind them
abbrev pub after_all : Follower → List Event → Follower
after_all f [] = f
after_all f (event ∷ events) = after_all (after f event) events
