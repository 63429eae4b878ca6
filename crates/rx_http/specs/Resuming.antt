-- What a reader is told that comes again and again, and what it all comes to (this project's own rule).
--
-- A reader goes on: in all its connections, each cut anywhere, a reader that says at each begin what it knows hears each item
-- at most once and in order; what it heard and the numbers that it was told as missed are together, without a gap, the items
-- from the first that it asked for on.
--
-- Those are the subject's items: what is heard in a connection are items of the subject, in their order, each at most once.
use Rattle.std.specs.Prelude.{ℕ, ◌+◌, ◌-◌, ◌≡◌, ◌≤◌, if◌then◌else◌, ◌==◌, nat_lt, List, [], ◌∷◌, ◌++◌, length, Option, None, Some}
use Rattle.rx_note.specs.declared.item.Item.{Item}
use Rattle.rx_note.specs.declared.note.Note.{Note}
use Rattle.rx_note.specs.declared.note.Note.TheVariants.{Next, Completed, Failed}
use Rattle.rx_note.specs.declared.rules.Rules.{Rules}
use Rattle.rx_history.specs.Histories.{History, line_of}
use Rattle.rx_history.specs.Delivery.{IsSubsequence, all_items}

-- what a reader hears: an item, a seed, that it missed so many, or an end
pub data Heard : Type 0 where
  Told : (item : Item) → Heard
  Seeded : (seed : Item) → Heard
  Missed : (n : ℕ) → Heard
  Over : (terminal : Note) → Heard

-- an item, to a reader that knows what became of the first `known`: what is told of it before the rest, which is told to one that knows it too
abbrev pub told_item : ℕ → Item → (ℕ → List Heard) → List Heard
told_item known item rest =
    if item.place == 4294967295 then Seeded item ∷ rest known
    else (if nat_lt item.place known then rest known
    else (if item.place == known then Told item ∷ rest (item.place + 1)
    else Missed (item.place - known) ∷ Told item ∷ rest (item.place + 1)))

-- what of a line is told to a reader that knows what became of the first `known` items of the subject
abbrev pub told : List Note → ℕ → List Heard
told [] known = []
told (Next item ∷ line) known = told_item known item (told line)
told (Completed ∷ line) known = Over Completed ∷ told line known
told (Failed text ∷ line) known = Over (Failed text) ∷ told line known

-- of how many of the first items the reader knows what became of them, once it heard this; None: one came twice, or out of order, or was left out
-- without a word
abbrev pub account : ℕ → List Heard → Option ℕ
account known [] = Some known
account known (Told item ∷ heard) = if item.place == known then account (item.place + 1) heard else None
account known (Seeded seed ∷ heard) = account known heard
account known (Missed n ∷ heard) = account (known + n) heard
account known (Over terminal ∷ heard) = account known heard

-- one connection: the observer that it made, after which history it was cut, and what was heard by then
pub record Connection : Type 0 where
  pub observer : ℕ
  pub history : History
  pub heard : List Heard

-- each of these connections was heard by a reader that said at its begin what it knew by then: a front of what is told of its observer's line
abbrev pub AreHeard : Rules → ℕ → List Connection → Type 0
AreHeard rules known [] = Unit {0}
AreHeard rules known (c ∷ more) =
    ((back : List Heard) × (told (line_of rules c.history c.observer) known ≡ c.heard ++ back))
    × ((next : ℕ) → account known c.heard ≡ Some next → AreHeard rules next more)

-- all that was heard, over all connections
abbrev pub all_heard : List Connection → List Heard
all_heard [] = []
all_heard (c ∷ more) = c.heard ++ all_heard more

-- the items heard
abbrev pub items_heard : List Heard → List Item
items_heard [] = []
items_heard (Told item ∷ heard) = item ∷ items_heard heard
items_heard (Seeded seed ∷ heard) = items_heard heard
items_heard (Missed n ∷ heard) = items_heard heard
items_heard (Over terminal ∷ heard) = items_heard heard

-- how many it was told that it missed
abbrev pub missed : List Heard → ℕ
missed [] = 0
missed (Told item ∷ heard) = missed heard
missed (Seeded seed ∷ heard) = missed heard
missed (Missed n ∷ heard) = n + missed heard
missed (Over terminal ∷ heard) = missed heard

-- places from n on, each above the one before
abbrev pub Rise : ℕ → List Item → Type 0
Rise n [] = Unit {0}
Rise n (item ∷ items) = (n ≤ item.place) × Rise (item.place + 1) items

-- A READER GOES ON: over all its connections it hears each item at most once and in order, and what it heard and what it was told that it missed are
-- together, without a gap, the items of its subject from the first that it asked for on
abbrev pub ReaderGoesOn : Type 0
ReaderGoesOn =
    (rules : Rules) (known : ℕ) (connections : List Connection) → AreHeard rules known connections
    → (next : ℕ) × (account known (all_heard connections) ≡ Some next)
    × Rise known (items_heard (all_heard connections))
    × (next ≡ known + (length (items_heard (all_heard connections)) + missed (all_heard connections)))

-- THOSE ARE THE SUBJECT'S ITEMS: what is heard over one connection are items of its subject, in their order, each at most once
abbrev pub HeardAreItems : Type 0
HeardAreItems =
    (rules : Rules) (H : History) (o known : ℕ) (heard back : List Heard) → told (line_of rules H o) known ≡ heard ++ back
    → IsSubsequence (items_heard heard) (all_items rules H)
