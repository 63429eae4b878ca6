-- The numbers of the observers that are held: they rise, and the next one is above them.
use Rattle.std.proofs.Common.{◌≡◌, ℕ, zero, suc, ◌+◌, ◌<◌, ◌≤◌, ◌==◌, Bool, true, false, cond, ◌&&◌, not, List, [], ◌∷◌, ◌++◌, length, take, drop, get_or, Option, None, Some, refl, ap, ◌∙◌, arith, add-one}
use Rattle.std.proofs.lemmas.Bool.Decides.{nat_tests}
use Rattle.std.specs.List.{filter}
use Rattle.std.specs.Option.{option_map}
use Rattle.rx_note.specs.declared.event.Event.TheVariants.{Emit, Join, Request, Dispose}
use Rattle.rx_note.specs.declared.rules.Rules.{Rules}
use Rattle.rx_note.specs.declared.limits.Limits.{Limits}
use Rattle.rx_note.specs.Signals.{Signals, ◌▸◌, Requested}
use Rattle.rx_history.specs.Histories.{History, NoEvents, ◌▹◌, Roster, admits, with_one_more, roster_of, joins, is_held, accepts, may_join, followed_by, signalled, opened, may_request, signals}

-- the numbers rise, from low on, and are below high
abbrev pub Rises : ℕ → List ℕ → ℕ → Type 0
Rises low [] high = low ≤ high
Rises low (k ∷ ks) high = (low ≤ k) × Rises (k + 1) ks high

-- none of the numbers is this one
abbrev pub AllDiffer : ℕ → List ℕ → Type 0
AllDiffer who [] = Unit {0}
AllDiffer who (k ∷ ks) = ((k == who) ≡ false) × AllDiffer who ks

-- one number more at the end
pub Rises-push : (low : ℕ) (ks : List ℕ) (high : ℕ) → Rises low ks high → Rises low (ks ++ high ∷ []) (high + 1)
Rises-push low [] high h = (h, omega arith)
Rises-push low (k ∷ ks) high h = (h.0, Rises-push (k + 1) ks high h.1)

-- what is below all of them, or not below the bound, is none of them
pub differ_below : (low : ℕ) (ks : List ℕ) (high who : ℕ) → Rises low ks high → who < low → AllDiffer who ks
differ_below low [] high who h lt = tt
differ_below low (k ∷ ks) high who h lt =
    let le : low ≤ k = h.0 in
    (grind (arith, nat_tests), differ_below (k + 1) ks high who h.1 (omega arith))

pub bound : (low : ℕ) (ks : List ℕ) (high : ℕ) → Rises low ks high → low ≤ high
bound low [] high h = h
bound low (k ∷ ks) high h = let le : low ≤ k = h.0 in let rest = bound (k + 1) ks high h.1 in omega arith

pub differ_above : (low : ℕ) (ks : List ℕ) (high who : ℕ) → Rises low ks high → high ≤ who → AllDiffer who ks
differ_above low [] high who h le = tt
differ_above low (k ∷ ks) high who h le =
    let below = bound (k + 1) ks high h.1 in
    (grind (arith, nat_tests), differ_above (k + 1) ks high who h.1 le)

-- the numbers before and after a place differ from the one at that place
at_least : (low : ℕ) (ks : List ℕ) (high i d : ℕ) → Rises low ks high → i < length ks → low ≤ get_or ks i d
at_least low [] high i d h lt = absurd (omega arith)
at_least low (k ∷ ks) high zero d h lt = h.0
at_least low (k ∷ ks) high (suc i) d h lt =
    let le : low ≤ k = h.0 in let rest = at_least (k + 1) ks high i d h.1 (omega arith) in omega arith

pub differ_before : (low : ℕ) (ks : List ℕ) (high i d : ℕ) → Rises low ks high → i < length ks → AllDiffer (get_or ks i d) (take i ks)
differ_before low [] high i d h lt = absurd (omega arith)
differ_before low (k ∷ ks) high zero d h lt = tt
differ_before low (k ∷ ks) high (suc i) d h lt =
    let above = at_least (k + 1) ks high i d h.1 (omega arith) in
    (grind (arith, nat_tests), differ_before (k + 1) ks high i d h.1 (omega arith))

pub differ_beyond : (low : ℕ) (ks : List ℕ) (high i d : ℕ) → Rises low ks high → i < length ks → AllDiffer (get_or ks i d) (drop (suc i) ks)
differ_beyond low [] high i d h lt = absurd (omega arith)
differ_beyond low (k ∷ ks) high zero d h lt = differ_below (k + 1) ks high k h.1 (omega arith)
differ_beyond low (k ∷ ks) high (suc i) d h lt = differ_beyond (k + 1) ks high i d h.1 (omega arith)

pub differ_after : (low : ℕ) (ks : List ℕ) (high i d : ℕ) → Rises low ks high → i < length ks → AllDiffer (get_or ks i d) (drop (i + 1) ks)
differ_after low ks high i d h lt = rw add-one (differ_beyond low ks high i d h lt)

Rises-from : (low lower : ℕ) (ks : List ℕ) (high : ℕ) → lower ≤ low → Rises low ks high → Rises lower ks high
Rises-from low lower [] high le h = omega arith
Rises-from low lower (k ∷ ks) high le h = let above : low ≤ k = h.0 in (omega arith, h.1)

Rises-kept : (b : Bool) (low k : ℕ) (ks : List ℕ) (high : ℕ) → low ≤ k → Rises (k + 1) ks high → Rises low (cond b (k ∷ ks) ks) high
Rises-kept true low k ks high le h = (le, h)
Rises-kept false low k ks high le h = Rises-from (k + 1) low ks high (omega arith) h

-- some of the numbers rise too
pub Rises-filter : (p : ℕ → Bool) (low : ℕ) (ks : List ℕ) (high : ℕ) → Rises low ks high → Rises low (filter p ks) high
Rises-filter p low [] high h = h
Rises-filter p low (k ∷ ks) high h = Rises-kept (p k) low k (filter p ks) high h.0 (Rises-filter p (k + 1) ks high h.1)

Rises-chosen : (b : Bool) (x y : Roster) → Rises 0 x.held x.joins → Rises 0 y.held y.joins → Rises 0 (cond b x y).held (cond b x y).joins
Rises-chosen true x y one other = one
Rises-chosen false x y one other = other

-- the numbers that are held rise, and are below the count of the joins
pub held_rises : (limits : Limits) (H : History) → Rises 0 (roster_of limits H).held (roster_of limits H).joins
held_rises limits NoEvents = omega arith
held_rises limits (H ▹ (port, Emit note at)) = held_rises limits H
held_rises limits (H ▹ (port, Join policy first at)) =
    let before = held_rises limits H in
    Rises-chosen (admits limits (roster_of limits H)) (with_one_more (roster_of limits H)) (roster_of limits H)
    (Rises-push 0 (roster_of limits H).held (roster_of limits H).joins before) before
held_rises limits (H ▹ (port, Request who n)) = held_rises limits H
held_rises limits (H ▹ (port, Dispose who)) =
    Rises-filter (λ o. not (o == who)) 0 (roster_of limits H).held (roster_of limits H).joins (held_rises limits H)

unmade_fed : (b : Bool) (f : Signals → Signals) (before : Option Signals) → before ≡ None → cond b (option_map f before) before ≡ None
unmade_fed true f before none = ap (option_map f) none
unmade_fed false f before none = none

unmade_refused : (b : Bool) (made before : Option Signals) → before ≡ None → cond (b && false) made before ≡ None
unmade_refused true made before none = none
unmade_refused false made before none = none

unmade_joined : (admitted : Bool) (roster : Roster) (o : ℕ) (made before : Option Signals)
    → (cond admitted (with_one_more roster) roster).joins ≤ o → (roster.joins ≤ o → before ≡ None)
    → cond ((roster.joins == o) && admitted) made before ≡ None
unmade_joined true roster o made before le none =
    let other : (roster.joins == o) ≡ false = grind (arith, nat_tests) in
    ap (λ b. cond (b && true) made before) other ∙ none (omega arith)
unmade_joined false roster o made before le none = unmade_refused (roster.joins == o) made before (none le)

-- an observer that no Join has made yet has no signals
pub signals_unmade : (rules : Rules) (H : History) (o : ℕ) → joins rules H ≤ o → signals rules H o ≡ None
signals_unmade rules NoEvents o le = refl
signals_unmade rules (H ▹ (port, Emit note at)) o le =
    unmade_fed (is_held rules H o && accepts rules H note) (λ s. followed_by s (signalled rules H port note)) (signals rules H o) (signals_unmade rules H o le)
signals_unmade rules (H ▹ (port, Join policy first at)) o le =
    unmade_joined (may_join rules H) (roster_of rules.limits H) o (Some (opened rules H policy first at)) (signals rules H o) le (signals_unmade rules H o)
signals_unmade rules (H ▹ (port, Request who n)) o le =
    unmade_fed ((who == o) && is_held rules H o) (λ s. cond (may_request n s) (s ▸ Requested n) s) (signals rules H o) (signals_unmade rules H o le)
signals_unmade rules (H ▹ (port, Dispose who)) o le = signals_unmade rules H o le
