-- What an entry gives to an observer is what its given gains.
use Rattle.std.proofs.Common.{◌≡◌, ℕ, ◌+◌, ◌==◌, Bool, true, false, cond, ◌||◌, List, [], ◌∷◌, ◌++◌, length, drop, refl, sym, ap, ◌∙◌, arith, append-nil}
use Rattle.std.specs.List.{list_any, flat_map}
use Rattle.std.proofs.lemmas.Bool.Decides.{nat_tests}
use Rattle.rx_note.specs.declared.given.Given.{Given}
use Rattle.rx_note.specs.declared.note.Note.{Note}
use Rattle.rx_note.specs.declared.rules.Rules.{Rules}
use Rattle.rx_note.specs.Signals.{given}
use Rattle.rx_history.specs.Histories.{Entry, History, ◌▹◌, held, is_held, given_to, addressed, outs}
use Rattle.rx_history.specs.Delivery.{notes_for, OutsAreGiven}
use Rattle.rx_history.proofs.Delivered.{given_only_grows, given_to-left}
use Rattle.rx_history.proofs.Numbers.{Rises, AllDiffer, differ_below, held_rises}

-- a note more at the front, where it is this observer's
kept_one : (b : Bool) (note : Note) (xs ys : List Note) → cond b (note ∷ (xs ++ ys)) (xs ++ ys) ≡ cond b (note ∷ xs) xs ++ ys
kept_one true note xs ys = refl
kept_one false note xs ys = refl

pub notes_for-append : (o : ℕ) (first more : List Given) → notes_for o (first ++ more) ≡ notes_for o first ++ notes_for o more
notes_for-append o [] more = refl
notes_for-append o (given ∷ first) more =
    ap (λ notes. cond (given.who == o) (given.note ∷ notes) notes) (notes_for-append o first more)
    ∙ kept_one (given.who == o) given.note (notes_for o first) (notes_for o more)

-- notes addressed to the observer are all its own, and of those addressed to another one none is
notes_for-own : (o k : ℕ) (notes : List Note) → (k == o) ≡ true → notes_for o (addressed k notes) ≡ notes
notes_for-own o k [] same = refl
notes_for-own o k (note ∷ notes) same =
    ap (λ b. cond b (note ∷ notes_for o (addressed k notes)) (notes_for o (addressed k notes))) same
    ∙ ap (λ more. note ∷ more) (notes_for-own o k notes same)

notes_for-other : (o k : ℕ) (notes : List Note) → (k == o) ≡ false → notes_for o (addressed k notes) ≡ []
notes_for-other o k [] other = refl
notes_for-other o k (note ∷ notes) other =
    ap (λ b. cond b (note ∷ notes_for o (addressed k notes)) (notes_for o (addressed k notes))) other
    ∙ notes_for-other o k notes other

-- the notes of several observers
notes_for-differ : (o : ℕ) (gains : ℕ → List Note) (ks : List ℕ) → AllDiffer o ks
    → notes_for o (flat_map (λ k. addressed k (gains k)) ks) ≡ []
notes_for-differ o gains [] differ = refl
notes_for-differ o gains (k ∷ ks) differ =
    notes_for-append o (addressed k (gains k)) (flat_map (λ k. addressed k (gains k)) ks)
    ∙ ap (λ notes. notes ++ notes_for o (flat_map (λ k. addressed k (gains k)) ks)) (notes_for-other o k (gains k) differ.0)
    ∙ notes_for-differ o gains ks differ.1

-- numbers that rise have each observer at most once
any_later : (b : Bool) (k o : ℕ) (ks : List ℕ) (any : Bool) → (k == o) ≡ b → b ≡ false → list_any (λ k. k == o) (k ∷ ks) ≡ any → list_any (λ k. k == o) ks ≡ any
any_later true k o ks any is other h = cc
any_later false k o ks any is other h = sym (ap (λ b. b || list_any (λ k. k == o) ks) is) ∙ h

notes_for-first : (b : Bool) (k : ℕ) (ks : List ℕ) (high o : ℕ) (gains : ℕ → List Note) → (k == o) ≡ b → Rises (k + 1) ks high
    → (b ≡ false → notes_for o (flat_map (λ k. addressed k (gains k)) ks) ≡ gains o)
    → notes_for o (addressed k (gains k)) ++ notes_for o (flat_map (λ k. addressed k (gains k)) ks) ≡ gains o
notes_for-first true k ks high o gains is rises later =
    let same : k ≡ o = grind (arith, nat_tests) in
    let differ : AllDiffer o ks = differ_below (k + 1) ks high o rises (omega arith) in
    ap (λ notes. notes ++ notes_for o (flat_map (λ k. addressed k (gains k)) ks)) (notes_for-own o k (gains k) is ∙ ap gains same)
    ∙ ap (λ notes. gains o ++ notes) (notes_for-differ o gains ks differ)
    ∙ append-nil (gains o)
notes_for-first false k ks high o gains is rises later =
    ap (λ notes. notes ++ notes_for o (flat_map (λ k. addressed k (gains k)) ks)) (notes_for-other o k (gains k) is) ∙ later refl

notes_for-rises : (low : ℕ) (ks : List ℕ) (high o : ℕ) (gains : ℕ → List Note) → Rises low ks high → list_any (λ k. k == o) ks ≡ true
    → notes_for o (flat_map (λ k. addressed k (gains k)) ks) ≡ gains o
notes_for-rises low [] high o gains rises any = cc
notes_for-rises low (k ∷ ks) high o gains rises any =
    notes_for-append o (addressed k (gains k)) (flat_map (λ k. addressed k (gains k)) ks)
    ∙ notes_for-first (k == o) k ks high o gains refl rises.1
    (λ other. notes_for-rises (k + 1) ks high o gains rises.1 (any_later (k == o) k o ks true refl other any))

drop-front : (front more : List Note) → drop (length front) (front ++ more) ≡ more
drop-front [] more = refl
drop-front (note ∷ front) more = drop-front front more

first_absent : (b rest : Bool) → (b || rest) ≡ false → b ≡ false
first_absent true rest none = cc
first_absent false rest none = refl

pub absent_differ : (o : ℕ) (ks : List ℕ) → list_any (λ k. k == o) ks ≡ false → AllDiffer o ks
absent_differ o [] none = tt
absent_differ o (k ∷ ks) none = let other : (k == o) ≡ false = first_absent (k == o) (list_any (λ k. k == o) ks) none in
    (other, absent_differ o ks (any_later (k == o) k o ks false refl other none))

-- what is new in what an observer was given
abbrev gained : Rules → History → Entry → ℕ → List Note
gained rules H entry o = drop (length (given_to rules H o)) (given_to rules (H ▹ entry) o)

outs_given_by : (rules : Rules) (H : History) (o : ℕ) (entry : Entry) (b : Bool) → is_held rules (H ▹ entry) o ≡ b
    → given_to rules (H ▹ entry) o ≡ given_to rules H o ++ notes_for o (outs rules H entry)
outs_given_by rules H o entry true is =
    let grown = given_only_grows rules H o entry in
    let new : notes_for o (outs rules H entry) ≡ grown.0 =
    notes_for-rises 0 (held rules (H ▹ entry)) _ o (gained rules H entry) (held_rises rules.limits (H ▹ entry)) is
    ∙ ap (drop (length (given_to rules H o))) grown.1
    ∙ drop-front (given_to rules H o) grown.0 in
    grown.1 ∙ ap (λ notes. given_to rules H o ++ notes) (sym new)
outs_given_by rules H o entry false is =
    given_to-left rules H o entry is
    ∙ sym (ap (λ notes. given_to rules H o ++ notes)
    (notes_for-differ o (gained rules H entry) (held rules (H ▹ entry)) (absent_differ o (held rules (H ▹ entry)) is))
    ∙ append-nil (given_to rules H o))

pub outs_are_given : OutsAreGiven
outs_are_given rules H o entry = outs_given_by rules H o entry (is_held rules (H ▹ entry) o) refl
