-- Which entries of a log count. That a machine numbers what it appends behind a tenure, and that no entry counts which is far
-- behind its tenure, is this project's own rule.
--
-- Two premises say of a real log that it is such a list. One list: what any reader is told of the entry at a place, at any time,
-- is the entry of one list there. Own entries: an own entry behind a tenure was appended by the run that holds the tenure.
-- Nothing is known of how often an entry is appended, when, or what was answered.
--
-- The laws, over the definitions alone, stand in `crates/rx_log/proofs`: `once`, `known-anywhere` and `opens-anywhere`,
-- `own-anywhere`, `claims` and `known-then`, `stretch`, `placed` and `items-emitted`.
--
-- A tenure is known by its place, which the list itself gives and nobody else can have: no clock, and no name on which
-- exactness rests.
--
-- Any tenure of its node voids one whose base is before it, also one that is void. So who appended a tenure that counts had
-- read every one of its node, and knows that nothing behind an older one can count any more.
--
-- What is far behind does not count. So what counts is known from the last entries alone, and what a rule holds is of a span,
-- however long the log.
use Rattle.std.specs.Prelude.{ℕ, ◌+◌, ◌==◌, Bool, false, ◌&&◌, nat_le, if◌then◌else◌, Option, None, Some}
use Rattle.rx_log.specs.declared.entry.Entry.{Entry}
use Rattle.rx_log.specs.declared.entry.Entry.TheVariants.{Tenure, Own, Foreign}
use Rattle.rx_log.specs.declared.holder.Holder.{Holder}

infixl 10 ◌▹◌
-- the entries of a log behind so many that are not known; the last stands outermost. A whole log is what stands behind 0
pub data Log : Type 0 where
  Behind : ℕ → Log
  ◌▹◌ : Log → Entry → Log

-- how many entries there are up to its end, which is the place of the last
abbrev pub entries : Log → ℕ
entries (Behind n) = n
entries (L ▹ entry) = entries L + 1

-- how many are not known
abbrev pub begun : Log → ℕ
begun (Behind n) = n
begun (L ▹ entry) = begun L

-- a log, and behind it the entries that are known of another
abbrev pub onto : Log → Log → Log
onto L (Behind n) = L
onto L (M ▹ entry) = onto L M ▹ entry

-- a log up to a place
abbrev pub up_to : ℕ → Log → Log
up_to place (Behind n) = Behind n
up_to place (L ▹ entry) = if nat_le (entries L + 1) place then L ▹ entry else up_to place L

-- TENURES

-- where the last tenure of a node stands, 0 if none does
abbrev pub last_tenure : ℕ → Log → ℕ
last_tenure node (Behind n) = 0
last_tenure node (L ▹ Tenure holder base total) = if holder.node == node then entries L + 1 else last_tenure node L
last_tenure node (L ▹ Own tenure number note) = last_tenure node L
last_tenure node (L ▹ Foreign text) = last_tenure node L

-- whether a tenure that is put behind L counts: it stands near its base, and its node has no other that stands behind the base,
-- so that who appended it had read them all
abbrev pub opens : ℕ → Log → ℕ → ℕ → Bool
opens span L node base = nat_le (entries L + 1) (base + span) && nat_le (last_tenure node L) base

-- where the last tenure of a node stands that counts, 0 if none does
abbrev pub current_tenure : ℕ → ℕ → Log → ℕ
current_tenure span node (Behind n) = 0
current_tenure span node (L ▹ Tenure holder base total) =
    if (holder.node == node) && opens span L node base then entries L + 1 else current_tenure span node L
current_tenure span node (L ▹ Own tenure number note) = current_tenure span node L
current_tenure span node (L ▹ Foreign text) = current_tenure span node L

-- who holds the tenure at a place, if one stands there
abbrev pub holder_at : ℕ → Log → Option Holder
holder_at place (Behind n) = None
holder_at place (L ▹ Tenure holder base total) = if entries L + 1 == place then Some holder else holder_at place L
holder_at place (L ▹ Own tenure number note) = holder_at place L
holder_at place (L ▹ Foreign text) = holder_at place L

-- whether the tenure at a place, which this one holds, is the last of its node that counts
abbrev pub is_current : ℕ → Log → ℕ → Option Holder → Bool
is_current span L place None = false
is_current span L place (Some holder) = current_tenure span holder.node L == place

-- whether a note may be put behind L that is numbered behind the tenure at this place
abbrev pub is_open : ℕ → Log → ℕ → Bool
is_open span L place = is_current span L place (holder_at place L) && nat_le (entries L + 1) (place + span)

-- NOTES

-- how many notes count behind the tenure at a place
abbrev pub counted : ℕ → ℕ → Log → ℕ
counted span place (Behind n) = 0
counted span place (L ▹ Tenure holder base total) = counted span place L
counted span place (L ▹ Own tenure number note) =
    if (tenure == place) && (is_open span L place && (number == counted span place L + 1)) then number else counted span place L
counted span place (L ▹ Foreign text) = counted span place L

-- whether an own entry that is put behind L counts: its tenure is open, and its number is the next one there
abbrev pub counts : ℕ → Log → ℕ → ℕ → Bool
counts span L tenure number = is_open span L tenure && (number == counted span tenure L + 1)
