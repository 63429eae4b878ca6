-- Observers whose queues stand for the signals that a table has of them.
use Rattle.std.proofs.Common.{◌≡◌, ℕ, suc, zero, ◌<◌, ◌==◌, Bool, true, false, ◌||◌, List, [], ◌∷◌, ◌++◌, length, take, drop, get_or, set, Option, Some, refl, ap, ◌∙◌, arith, append-nil}
use Rattle.std.proofs.lemmas.Bool.Decides.{nat_tests}
use Rattle.std.proofs.Math.Seq.{drop-append_seam}
use Rattle.std.proofs.lemmas.List.{drop_all}
use Rattle.std.specs.List.{list_any, flat_map}
use Rattle.std.specs.Option.{option_map_or}
use Rattle.rx_note.specs.declared.given.Given.{Given}
use Rattle.rx_note.specs.declared.note.Note.{Note}
use Rattle.rx_note.specs.Signals.{Signals, given}
use Rattle.rx_history.specs.Histories.{addressed}
use Rattle.rx_history.proofs.Numbers.{AllDiffer}
use Rattle.rx_hub.specs.Subscriptions.{Observer, numbers, StandsAt, AllStand}

-- what an observer was given, by a table
abbrev pub given_by : (ℕ → Option Signals) → ℕ → List Note
given_by table o = option_map_or given (table o) []

-- what an observer was given by the later table and not by the earlier one
abbrev pub gains : (ℕ → Option Signals) → (ℕ → Option Signals) → ℕ → List Given
gains table later o = addressed o (drop (length (given_by table o)) (given_by later o))

-- each number is among all
abbrev pub AllAmong : List ℕ → List ℕ → Type 0
AllAmong all [] = Unit {0}
AllAmong all (k ∷ ks) = (list_any (λ j. j == k) all ≡ true) × AllAmong all ks

among-more : (x k : ℕ) (all : List ℕ) → list_any (λ j. j == k) all ≡ true → list_any (λ j. j == k) (x ∷ all) ≡ true
among-more x k all h = either (x == k) (list_any (λ j. j == k) all) h
  where
    either : (a b : Bool) → b ≡ true → (a || b) ≡ true
    either true b e = refl
    either false b e = e

AllAmong-more : (x : ℕ) (all ks : List ℕ) → AllAmong all ks → AllAmong (x ∷ all) ks
AllAmong-more x all [] h = tt
AllAmong-more x all (k ∷ ks) h = (among-more x k all h.0, AllAmong-more x all ks h.1)

among-first : (k : ℕ) (ks : List ℕ) → list_any (λ j. j == k) (k ∷ ks) ≡ true
among-first k ks = let same : (k == k) ≡ true = grind (arith, nat_tests) in ap (λ b. b || list_any (λ j. j == k) ks) same

-- the numbers are among themselves
pub AllAmong-self : (ks : List ℕ) → AllAmong ks ks
AllAmong-self [] = tt
AllAmong-self (k ∷ ks) = (among-first k ks, AllAmong-more k ks ks (AllAmong-self ks))

-- a table that has the same of these observers
pub AllStand-same : (table later : ℕ → Option Signals) (who : ℕ) (observers : List Observer)
    → AllDiffer who (numbers observers) → ((o : ℕ) → (o == who) ≡ false → later o ≡ table o) → AllStand table observers → AllStand later observers
AllStand-same table later who [] differ same all = tt
AllStand-same table later who (observer ∷ observers) differ same all = (
  record { these = all.0.these; are = same observer.who differ.0 ∙ all.0.are; stand = all.0.stand },
  AllStand-same table later who observers differ.1 same all.1,
)

-- a table that has the same of all
pub AllStand-all : (table later : ℕ → Option Signals) (observers : List Observer)
    → ((o : ℕ) → later o ≡ table o) → AllStand table observers → AllStand later observers
AllStand-all table later [] same all = tt
AllStand-all table later (observer ∷ observers) same all =
    (record { these = all.0.these; are = same observer.who ∙ all.0.are; stand = all.0.stand }, AllStand-all table later observers same all.1)

-- one observer more
pub AllStand-push : (table : ℕ → Option Signals) (observers : List Observer) (observer : Observer)
    → AllStand table observers → StandsAt observer.lane (table observer.who) → AllStand table (observers ++ observer ∷ [])
AllStand-push table [] observer all one = (one, tt)
AllStand-push table (first ∷ observers) observer all one = (all.0, AllStand-push table observers observer all.1 one)

-- the observer at a place
pub AllStand-at : (table : ℕ → Option Signals) (observers : List Observer) (k : ℕ) (d : Observer)
    → k < length observers → AllStand table observers → StandsAt (get_or observers k d).lane (table (get_or observers k d).who)
AllStand-at table [] k d lt all = absurd (omega arith)
AllStand-at table (observer ∷ observers) zero d lt all = all.0
AllStand-at table (observer ∷ observers) (suc k) d lt all = AllStand-at table observers k d (omega arith) all.1

-- another observer at a place, where the table has the same of all others
pub AllStand-set : (table later : ℕ → Option Signals) (who : ℕ) (observers : List Observer) (k : ℕ) (new : Observer)
    → k < length observers → AllDiffer who (take k (numbers observers)) → AllDiffer who (drop (suc k) (numbers observers))
    → ((o : ℕ) → (o == who) ≡ false → later o ≡ table o) → StandsAt new.lane (later new.who)
    → AllStand table observers → AllStand later (set observers k new)
AllStand-set table later who [] k new lt before after same one all = absurd (omega arith)
AllStand-set table later who (observer ∷ observers) zero new lt before after same one all =
    (one, AllStand-same table later who observers after same all.1)
AllStand-set table later who (observer ∷ observers) (suc k) new lt before after same one all = (
  record { these = all.0.these; are = same observer.who before.0 ∙ all.0.are; stand = all.0.stand },
  AllStand-set table later who observers k new (omega arith) before.1 after same one all.1,
)

-- where a table has the same, nothing was given
pub gains-same : (table later : ℕ → Option Signals) (o : ℕ) → later o ≡ table o → gains table later o ≡ []
gains-same table later o same =
    let e : given_by later o ≡ given_by table o = ap (λ t. option_map_or given t []) same in
    let none : drop (length (given_by table o)) (given_by later o) ≡ [] =
    ap (drop (length (given_by table o))) e ∙ drop_all (length (given_by table o)) (given_by table o) (omega arith) in
    ap (addressed o) none

pub all_gains-same : (table later : ℕ → Option Signals) (ks : List ℕ) → ((o : ℕ) → later o ≡ table o) → flat_map (gains table later) ks ≡ []
all_gains-same table later [] same = refl
all_gains-same table later (k ∷ ks) same = ap (λ xs. xs ++ flat_map (gains table later) ks) (gains-same table later k (same k)) ∙ all_gains-same table later ks same

pub all_gains-differ : (table later : ℕ → Option Signals) (who : ℕ) (ks : List ℕ) → AllDiffer who ks
    → ((o : ℕ) → (o == who) ≡ false → later o ≡ table o) → flat_map (gains table later) ks ≡ []
all_gains-differ table later who [] differ same = refl
all_gains-differ table later who (k ∷ ks) differ same =
    ap (λ xs. xs ++ flat_map (gains table later) ks) (gains-same table later k (same k differ.0)) ∙ all_gains-differ table later who ks differ.1 same

-- of several observers only one was given something
pub all_gains-at : (table later : ℕ → Option Signals) (who : ℕ) (ks : List ℕ) (k d : ℕ)
    → k < length ks → AllDiffer who (take k ks) → AllDiffer who (drop (suc k) ks) → ((o : ℕ) → (o == who) ≡ false → later o ≡ table o)
    → flat_map (gains table later) ks ≡ gains table later (get_or ks k d)
all_gains-at table later who [] k d lt before after same = absurd (omega arith)
all_gains-at table later who (x ∷ ks) zero d lt before after same =
    ap (λ xs. gains table later x ++ xs) (all_gains-differ table later who ks after same) ∙ append-nil (gains table later x)
all_gains-at table later who (x ∷ ks) (suc k) d lt before after same =
    ap (λ xs. xs ++ flat_map (gains table later) ks) (gains-same table later x (same x before.0)) ∙ all_gains-at table later who ks k d (omega arith) before.1 after same

-- what more signals gave to an observer
pub gains-more : (table later : ℕ → Option Signals) (o : ℕ) (s t : Signals) (notes : List Note)
    → table o ≡ Some s → later o ≡ Some t → given t ≡ given s ++ notes → gains table later o ≡ addressed o notes
gains-more table later o s t notes was is more =
    let before : given_by table o ≡ given s = ap (λ x. option_map_or given x []) was in
    let after : given_by later o ≡ given s ++ notes = ap (λ x. option_map_or given x []) is ∙ more in
    ap (addressed o) (ap (λ n. drop n (given_by later o)) (ap length before) ∙ ap (drop (length (given s))) after ∙ drop-append_seam (given s) notes)
