-- The stamps of a subject's items rise, and none is above the subject's own.
use Rattle.std.proofs.Common.{ℕ, zero, suc, ◌≤◌, max, Bool, true, false, cond, List, [], ◌∷◌, ◌++◌, map, drop, sym, subst, arith, append-nil}
use Rattle.std.proofs.Math.Nat.{le-max_left}
use Rattle.std.specs.List.{filter}
use Rattle.rx_note.specs.declared.item.Item.{Item}
use Rattle.rx_note.specs.declared.note.Note.{Note}
use Rattle.rx_note.specs.declared.note.Note.TheVariants.{Next, Completed, Failed}
use Rattle.rx_note.specs.declared.event.Event.TheVariants.{Emit, Join, Request, Dispose}
use Rattle.rx_note.specs.declared.rules.Rules.{Rules}
use Rattle.rx_history.specs.Histories.{History, NoEvents, ◌▹◌, Stamped, item_count, accepts, may_join, stamp, item_in, items}

-- the stamps rise, from low on, and are not above high
abbrev pub RisesTo : ℕ → List Stamped → ℕ → Type 0
RisesTo low [] high = low ≤ high
RisesTo low (first ∷ rest) high = (low ≤ first.1) × RisesTo first.1 rest high

pub lowered : (low less : ℕ) (xs : List Stamped) (high : ℕ) → less ≤ low → RisesTo low xs high → RisesTo less xs high
lowered low less [] high le h = omega arith
lowered low less (x ∷ xs) high le h = let first : low ≤ x.1 = h.0 in (omega arith, h.1)

pub raised : (low : ℕ) (xs : List Stamped) (high more : ℕ) → high ≤ more → RisesTo low xs high → RisesTo low xs more
raised low [] high more le h = omega arith
raised low (x ∷ xs) high more le h = (h.0, raised x.1 xs high more le h.1)

-- one item more at the end
pub pushed : (low : ℕ) (xs : List Stamped) (high now : ℕ) (item : Item) → high ≤ now → RisesTo low xs high → RisesTo low (xs ++ (item, now) ∷ []) now
pushed low [] high now item le h = (omega arith, omega arith)
pushed low (x ∷ xs) high now item le h = (h.0, pushed x.1 xs high now item le h.1)

-- without those at the front
pub dropped : (n low : ℕ) (xs : List Stamped) (high : ℕ) → RisesTo low xs high → RisesTo low (drop n xs) high
dropped zero low xs high h = h
dropped (suc n) low [] high h = h
dropped (suc n) low (x ∷ xs) high h = lowered x.1 low (drop n xs) high h.0 (dropped n x.1 xs high h.1)

chosen : (b : Bool) (low : ℕ) (x : Stamped) (xs : List Stamped) (high : ℕ) → low ≤ x.1 → RisesTo x.1 xs high → RisesTo low (cond b (x ∷ xs) xs) high
chosen true low x xs high le h = (le, h)
chosen false low x xs high le h = lowered x.1 low xs high le h

-- those that a test finds
pub sifted : (p : Stamped → Bool) (low : ℕ) (xs : List Stamped) (high : ℕ) → RisesTo low xs high → RisesTo low (filter p xs) high
sifted p low [] high h = h
sifted p low (x ∷ xs) high h = chosen (p x) low x (filter p xs) high h.0 (sifted p x.1 xs high h.1)

note_rises : (note : Note) (accepted : Bool) (xs : List Stamped) (now at port place : ℕ) → RisesTo 0 xs now
    → RisesTo 0 (cond accepted (xs ++ map (λ item. (item, max now at)) (item_in port place note)) xs) (cond accepted (max now at) now)
note_rises note false xs now at port place h = h
note_rises (Next item) true xs now at port place h = pushed 0 xs now (max now at) _ (le-max_left now at) h
note_rises Completed true xs now at port place h =
    let P : List Stamped → Type 0 = λ ys. RisesTo 0 ys (max now at) in
    subst P (sym (append-nil xs)) (raised 0 xs now (max now at) (le-max_left now at) h)
note_rises (Failed text) true xs now at port place h =
    let P : List Stamped → Type 0 = λ ys. RisesTo 0 ys (max now at) in
    subst P (sym (append-nil xs)) (raised 0 xs now (max now at) (le-max_left now at) h)

join_rises : (joined : Bool) (xs : List Stamped) (now at : ℕ) → RisesTo 0 xs now → RisesTo 0 xs (cond joined (max now at) now)
join_rises true xs now at h = raised 0 xs now (max now at) (le-max_left now at) h
join_rises false xs now at h = h

-- the stamps of the items rise to the stamp of the subject
pub items_rise : (rules : Rules) (H : History) → RisesTo 0 (items rules H) (stamp rules H)
items_rise rules NoEvents = omega arith
items_rise rules (H ▹ (port, Emit note at)) = note_rises note (accepts rules H note) (items rules H) (stamp rules H) at port (item_count rules H) (items_rise rules H)
items_rise rules (H ▹ (port, Join policy first at)) = join_rises (may_join rules H) (items rules H) (stamp rules H) at (items_rise rules H)
items_rise rules (H ▹ (port, Request who n)) = items_rise rules H
items_rise rules (H ▹ (port, Dispose who)) = items_rise rules H
