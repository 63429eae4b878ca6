-- A machine that reads a log and appends to it: what of the log is its own, and the calls and logs that it stands for.
--
-- What to append: exactly what is due: nothing unless it has caught up and is connected; a tenure of its holder that tells
-- how far it has read and what it knows the log to come to; or the next call that waits, numbered behind its tenure, within
-- the window. It then stands for all that it appended and this. `Memory` leaves it.
--
-- An entry is read: `Passed` exactly at a place that was read, `Gone` exactly behind one that was not, else perhaps `Memory`,
-- by which nothing changes. Else, where an own entry of the machine's is one that it appended: it stands as the definition
-- says, it answers the call that is next behind those that count, exactly where it is the machine's own and counts, and the
-- machine stands for the longer log; its part that appends is exactly as the definition says.
--
-- That a machine stands for its calls says: the notes that count of its own, followed by those of the calls that wait, are
-- exactly those of the calls that were made, in order.
use Rattle.std.specs.Prelude.{◌≡◌, ℕ, ◌-◌, ◌<◌, ◌≤◌, Bool, true, ◌&&◌, if◌then◌else◌, List, [], ◌∷◌, ◌++◌, length, map, drop, slice_get, Option, None, Some, option_map, All, Contains}
use Rattle.rx_note.specs.declared.note.Note.{Note}
use Rattle.rx_log.specs.declared.call.Call.{Call}
use Rattle.rx_log.specs.declared.entry.Entry.{Entry}
use Rattle.rx_log.specs.declared.entry.Entry.TheVariants.{Tenure, Own, Foreign}
use Rattle.rx_log.specs.declared.holder.Holder.{Holder}
use Rattle.rx_log.specs.declared.read.Read.{Read}
use Rattle.rx_log.specs.Logs.{Log, Behind, ◌▹◌, entries, holder_at, current_tenure, counted, counts}
use Rattle.rx_log.specs.Totals.{known, standing}
use Rattle.rx_log.specs.Rules.{RuleState}
use Rattle.rx_log.specs.Rules as rules
use Rattle.rx_log.specs.Senders.{SenderState, is_held_by}

-- WHAT OF A LOG IS ONE'S OWN

-- whether an own entry that is put behind L counts, behind a tenure of this holder
abbrev pub is_own : ℕ → Holder → Log → ℕ → ℕ → Bool
is_own span holder L tenure number = counts span L tenure number && is_held_by holder (holder_at tenure L)

-- the notes that count behind a holder's tenures, all of them, in order
abbrev pub own_notes : ℕ → Holder → Log → List Note
own_notes span holder (Behind n) = []
own_notes span holder (L ▹ Tenure other base told) = own_notes span holder L
own_notes span holder (L ▹ Own tenure number note) =
    if is_own span holder L tenure number then own_notes span holder L ++ note ∷ [] else own_notes span holder L
own_notes span holder (L ▹ Foreign text) = own_notes span holder L

-- the notes of several calls
abbrev pub notes_of : List Call → List Note
notes_of calls = map (λ (call : Call). call.note) calls

-- the second premise, of the next entry: if it is the holder's own, the holder appended it
abbrev pub IsHanded : ℕ → Holder → List Entry → Log → Entry → Type 0
IsHanded span holder handed L (Tenure other base told) = Unit {0}
IsHanded span holder handed L (Own tenure number note) = is_own span holder L tenure number ≡ true → Contains handed (Own tenure number note)
IsHanded span holder handed L (Foreign text) = Unit {0}

-- WHAT A SENDER STANDS FOR

-- what was appended behind a tenure of the holder's and may still count is, by its number, a call that waits
abbrev pub Fits : ℕ → Holder → Log → List Call → Entry → Type 0
Fits span holder L waiting (Tenure other base told) = Unit {0}
Fits span holder L waiting (Own tenure number note) = (tenure ≤ entries L)
    × (holder_at tenure L ≡ Some holder → current_tenure span holder.node L ≡ tenure → counted span tenure L < number
    → slice_get (notes_of waiting) (number - counted span tenure L - 1) ≡ Some note)
Fits span holder L waiting (Foreign text) = Unit {0}

-- this tenure is the holder's, the last of its node that counts, and so many notes count behind it
pub record Owns (span : ℕ) (holder : Holder) (L : Log) (tenure number : ℕ) : Type 0 where
  pub current : current_tenure span holder.node L ≡ tenure
  pub held : holder_at tenure L ≡ Some holder
  pub number_is : counted span tenure L ≡ number

-- a sender stands for the calls that were made, for all that it appended, and for a log: what of the log is its own, followed by
-- what waits, is exactly what was called, in that order
pub record Serves (span : ℕ) (s : SenderState) (calls : List Call) (handed : List Entry) (L : Log) : Type 0 where
  pub exact : own_notes span s.holder L ++ notes_of s.waiting ≡ notes_of calls
  pub waits : s.waiting ≡ drop (length (own_notes span s.holder L)) calls
  pub fits : All (Fits span s.holder L s.waiting) handed
  pub owns : (tenure : ℕ) → s.tenure ≡ Some tenure → Owns span s.holder L tenure s.counted

-- WHAT A MACHINE STANDS FOR

-- a machine: what it makes of what it reads, and what it appends
pub record MachineState : Type 0 where
  pub rule : RuleState
  pub sender : SenderState

-- a machine stands for the calls that were made, for all that it appended, and for the log that it read
pub record StandsFor (m : MachineState) (calls : List Call) (handed : List Entry) (L : Log) : Type 0 where
  pub reads : rules.StandsFor m.rule L
  pub serves : Serves m.rule.span m.sender calls handed L

-- the call that an entry answers which is put behind L: if it is the holder's own, the next one behind those that are in L
abbrev pub answer : ℕ → Holder → List Call → Log → Entry → Option ℕ
answer span holder calls L (Tenure other base told) = None
answer span holder calls L (Own tenure number note) = if is_own span holder L tenure number
    then option_map (λ (call : Call). call.ticket) (slice_get calls (length (own_notes span holder L))) else None
answer span holder calls L (Foreign text) = None

-- an entry that is put behind L is read: it stands so, answers this call, and the machine goes on with it
pub record Reads (old new : MachineState) (calls : List Call) (handed : List Entry) (L : Log) (entry : Entry) (read : Read) : Type 0 where
  pub stands_is : read.standing ≡ standing old.rule.span L entry
  pub answers_is : read.answers ≡ answer old.rule.span old.sender.holder calls L entry
  pub goes_on : StandsFor new calls handed (L ▹ entry)

-- a tenure that is appended tells how far the machine has read, and what it knows that the log comes to
abbrev pub Tells : ℕ → Log → Option Entry → Type 0
Tells span L None = Unit {0}
Tells span L (Some (Tenure holder base told)) = (base ≡ entries L) × (known span L ≡ Some told)
Tells span L (Some (Own tenure number note)) = Unit {0}
Tells span L (Some (Foreign text)) = Unit {0}
