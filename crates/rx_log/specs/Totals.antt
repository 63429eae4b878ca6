-- What the notes of a log come to, and what of that a machine knows that began to read anywhere.
--
-- A tenure is believed once, and never more items than there are entries before its base. By whoever tells what it knows that
-- is always so; and whatever else stands in a log, no count of a rule can overflow.
use Rattle.std.specs.Prelude.{◌≡◌, ℕ, ◌+◌, ◌==◌, Bool, true, false, ◌&&◌, nat_le, if◌then◌else◌, List, [], ◌∷◌, ◌++◌, Option, None, Some}
use Rattle.rx_note.specs.declared.note.Note.{Note}
use Rattle.rx_note.specs.declared.note.Note.TheVariants.{Next, Completed, Failed}
use Rattle.rx_log.specs.declared.entry.Entry.{Entry}
use Rattle.rx_log.specs.declared.entry.Entry.TheVariants.{Tenure, Own, Foreign}
use Rattle.rx_log.specs.declared.total.Total.{Total}
use Rattle.rx_log.specs.declared.standing.Standing.{Standing}
use Rattle.rx_log.specs.declared.standing.Standing.TheVariants.{Void, Opens, Counts}
use Rattle.rx_log.specs.Logs.{Log, Behind, ◌▹◌, entries, begun, onto, up_to, opens, holder_at, counts}

-- whether a note ends its subject
abbrev pub ends : Note → Bool
ends (Next item) = false
ends Completed = true
ends (Failed text) = true

-- the note of an entry that is put behind L, where it counts
abbrev pub emitted : ℕ → Log → Entry → Option Note
emitted span L (Tenure holder base total) = None
emitted span L (Own tenure number note) = if counts span L tenure number then Some note else None
emitted span L (Foreign text) = Some (Next (record { from = 0; place = 0; text = text }))

-- no note
abbrev pub nothing : Total
nothing = record { items = 0; ended = false }

-- a total with one note more: what comes behind the end counts for nothing
abbrev pub with_note : Total → Bool → Total
with_note total is_end = if total.ended then total else (if is_end then record { items = total.items; ended = true } else record { items = total.items + 1; ended = false })

-- the same, where there may be none
abbrev pub after : Total → Option Note → Total
after total None = total
after total (Some note) = with_note total (ends note)

-- what L comes to, where it comes to `start` at this base
abbrev pub total_behind : ℕ → ℕ → Total → Log → Total
total_behind span base start (Behind n) = start
total_behind span base start (L ▹ entry) =
    if nat_le (entries L + 1) base then start else after (total_behind span base start L) (emitted span L entry)

-- what a whole log comes to
abbrev pub total : ℕ → Log → Total
total span L = total_behind span 0 nothing L

-- THE NOTES THAT ARE EMITTED

-- the note, where the log has not ended before
abbrev pub unless_ended : Total → Option Note → List Note
unless_ended before None = []
unless_ended before (Some note) = if before.ended then [] else note ∷ []

-- the notes that a whole log emits, in order: the history of its subject
abbrev pub emissions : ℕ → Log → List Note
emissions span (Behind n) = []
emissions span (L ▹ entry) = emissions span L ++ unless_ended (total span L) (emitted span L entry)

-- WHAT IS KNOWN

-- whether a tenure that is put behind L is believed what it tells: it counts, and two spans of what stands before its base are
-- known, so that all is known which counts behind the base
abbrev pub is_believed : ℕ → Log → ℕ → ℕ → Total → Bool
is_believed span L node base told =
    opens span L node base && (nat_le (begun L + span + span) base && (nat_le base (entries L) && nat_le (told.items) base))

-- what L comes to by a tenure that is put behind it, if that is believed
abbrev pub claimed : ℕ → Log → Entry → Option Total
claimed span L (Tenure holder base told) =
    if is_believed span L (holder.node) base told then Some (total_behind span base told L) else None
claimed span L (Own tenure number note) = None
claimed span L (Foreign text) = None

-- what is known with one entry more
abbrev pub known_next : ℕ → Log → Entry → Option Total → Option Total
known_next span L entry None = claimed span L entry
known_next span L entry (Some before) = Some (after before (emitted span L entry))

-- what a machine knows that its log comes to: from the first entry on, or from a tenure on that it believes
abbrev pub known : ℕ → Log → Option Total
known span (Behind n) = if n == 0 then Some nothing else None
known span (L ▹ entry) = known_next span L entry (known span L)

-- how an entry stands that is put behind L
abbrev pub standing : ℕ → Log → Entry → Standing
standing span L (Tenure holder base told) = if opens span L (holder.node) base then Opens else Void
standing span L (Own tenure number note) =
    if counts span L tenure number then Counts (holder_at tenure L) (known span L) else Void
standing span L (Foreign text) = Counts None (known span L)

-- WHAT A MACHINE EMITS

-- what is emitted of an entry, by what is known of the log before it
abbrev pub given_out : Option Total → Option Note → List Note
given_out None emission = []
given_out (Some before) emission = unless_ended before emission

-- the notes that a machine emits, in order: of each entry that counts from where on it knows what its log comes to
abbrev pub heard_of : ℕ → Log → List Note
heard_of span (Behind n) = []
heard_of span (L ▹ entry) = heard_of span L ++ given_out (known span L) (emitted span L entry)

-- how many items came before a note, if it is emitted
abbrev pub place_in : Option Total → Option ℕ
place_in None = None
place_in (Some before) = if before.ended then None else Some before.items

-- the same, by how its entry stands
abbrev pub place_of : Standing → Option ℕ
place_of Void = None
place_of Opens = None
place_of (Counts by before) = place_in before

-- THE CLAIMS OF TENURES

-- a machine that began behind some entries knows that L comes to this
pub record IsKnown (span : ℕ) (L : Log) (told : Total) : Type 0 where
  pub before : Log
  pub read : Log
  pub behind : entries before ≡ begun read
  pub whole : onto before read ≡ L
  pub knows : known span read ≡ Some told

-- each tenure tells what whoever appended it knew at its base: all were appended by this program
abbrev pub AllRead : ℕ → Log → Type 0
AllRead span (Behind n) = Unit {0}
AllRead span (L ▹ Tenure holder base told) = AllRead span L × IsKnown span (up_to base L) told
AllRead span (L ▹ Own tenure number note) = AllRead span L
AllRead span (L ▹ Foreign text) = AllRead span L
