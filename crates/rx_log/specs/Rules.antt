-- What contracts see of the rule that reads a log entry by entry, and the logs that it stands for.
--
-- One entry more: for every log that the rule stands for: the entry at the next place stands exactly as the definition says,
-- void, a tenure that counts, or a note that counts, with who holds its tenure and what is known to come before it; the rule
-- then stands for the longer log. `Memory` leaves it, and comes at the latest behind 9,223,372,036,854,775,807 entries.
use Rattle.std.specs.Prelude.{◌≡◌, ℕ, ◌+◌, ◌<◌, ◌≤◌, ◌⊎◌, Bool, true, nat_le, if◌then◌else◌, List, [], ◌∷◌, ◌++◌, Option, None, Some, option_map, All}
use Rattle.rx_log.specs.declared.total.Total.{Total}
use Rattle.rx_log.specs.declared.term.Term.{Term}
use Rattle.rx_log.specs.declared.mark.Mark.{Mark}
use Rattle.rx_log.specs.declared.entry.Entry.{Entry}
use Rattle.rx_log.specs.declared.standing.Standing.{Standing}
use Rattle.rx_log.specs.Terms.{IsHad}
use Rattle.rx_log.specs.Logs.{Log, ◌▹◌, entries, begun, last_tenure, current_tenure, holder_at, is_open, counted}
use Rattle.rx_log.specs.Totals.{with_note, total_behind, known, standing}

-- a rule: its span, how many entries it does not know, how many it has read up to, what it has of each node, what it knows that
-- the log comes to, and as long as it does not, which notes counted lately
pub record RuleState : Type 0 where
  pub span : ℕ
  pub begun : ℕ
  pub at : ℕ
  pub terms : List Term
  pub total : Option Total
  pub recent : List Mark

-- this place is so far behind that nothing which comes asks for it
abbrev pub IsFar : ℕ → Log → ℕ → Type 0
IsFar span L place = place + span ≤ entries L

-- one place, or both are far behind
abbrev pub AreAlike : ℕ → Log → ℕ → ℕ → Type 0
AreAlike span L a b = (a ≡ b) ⊎ (IsFar span L a × IsFar span L b)

-- a node's current tenure is this, with what counts behind it
pub record HoldsTenure (span : ℕ) (L : Log) (term : Term) : Type 0 where
  pub is_current : term.current ≡ current_tenure span term.holder.node L
  pub holder : 0 < term.current → holder_at term.current L ≡ Some term.holder
  pub number : 0 < term.current → term.number ≡ counted span term.current L

-- the same, or it is far behind
abbrev pub HoldsNearly : ℕ → Log → Term → Type 0
HoldsNearly span L term =
    HoldsTenure span L term ⊎ (IsFar span L term.current × IsFar span L (current_tenure span term.holder.node L))

-- what is had of a node is so
pub record Knows (span : ℕ) (L : Log) (term : Term) : Type 0 where
  pub last : AreAlike span L term.last (last_tenure term.holder.node L)
  pub current : HoldsNearly span L term

-- a total with the notes of these marks that stand behind a base
abbrev pub with_marks : ℕ → Total → List Mark → Total
with_marks base start [] = start
with_marks base start (mark ∷ marks) =
    if nat_le (mark.place) base then with_marks base start marks else with_marks base (with_note start (mark.ends)) marks

-- a mark more is kept, and the first one may go that is a span behind it
abbrev pub Remembers : ℕ → List Mark → List Mark → Mark → Type 0
Remembers span old new mark = (new ≡ old ++ mark ∷ [])
    ⊎ ((first : Mark) × (old ++ mark ∷ [] ≡ first ∷ new) × (first.place + span ≤ mark.place))

-- a rule stands for a log
pub record StandsFor (rule : RuleState) (L : Log) : Type 0 where
  pub begun_is : rule.begun ≡ begun L
  pub at_is : rule.at ≡ entries L
  pub knows : All (Knows rule.span L) rule.terms
  pub near_had : (node : ℕ) → 0 < last_tenure node L → entries L < last_tenure node L + rule.span → IsHad rule.terms node
  pub total_is : rule.total ≡ known rule.span L
  pub marked : rule.total ≡ None → (base : ℕ) (start : Total) → entries L ≤ base + rule.span
      → with_marks base start rule.recent ≡ total_behind rule.span base start L

-- a note counts at the next place: it is added to what is known, or kept as a mark
pub record Notes (old new : RuleState) (is_end : Bool) : Type 0 where
  pub span : new.span ≡ old.span
  pub begun : new.begun ≡ old.begun
  pub at : new.at ≡ old.at + 1
  pub terms : new.terms ≡ old.terms
  pub total : new.total ≡ option_map (λ (told : Total). with_note told is_end) old.total
  pub recent : old.total ≡ None → Remembers old.span old.recent new.recent (record { place = old.at + 1; ends = is_end })

-- what is had of the node of an open tenure
pub record IsOpenBy (span : ℕ) (L : Log) (tenure : ℕ) (term : Term) : Type 0 where
  pub open_so : is_open span L tenure ≡ true
  pub holder : holder_at tenure L ≡ Some term.holder
  pub number : term.number ≡ counted span tenure L

-- an entry that is put behind L stands so, and the rule goes on with it
pub record Follows (old new : RuleState) (L : Log) (entry : Entry) (stands : Standing) : Type 0 where
  pub stands_is : stands ≡ standing old.span L entry
  pub goes_on : StandsFor new (L ▹ entry)
