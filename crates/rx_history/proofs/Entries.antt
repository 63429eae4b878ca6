-- What an entry makes of the observers that are held, and of the signals of each.
use Rattle.std.proofs.Common.{◌≡◌, ℕ, ◌≤◌, ◌==◌, Bool, true, false, cond, ◌&&◌, ◌||◌, not, ltb, List, [], ◌∷◌, Option, None, Some, is_some, inl, inr, refl, sym, ap, ◌∙◌, arith}
use Rattle.std.specs.List.{list_any, filter}
use Rattle.std.specs.Option.{option_map, option_map_or}
use Rattle.std.proofs.lemmas.Bool.{cases_lt, le-ltb, lt-ltb}
use Rattle.std.proofs.lemmas.Bool.Decides.{nat_tests}
use Rattle.std.proofs.lemmas.List.Folds.{list_any-append}
use Rattle.rx_note.specs.declared.note.Note.{Note}
use Rattle.rx_note.specs.declared.event.Event.TheVariants.{Emit, Join, Request, Dispose}
use Rattle.rx_note.specs.declared.rules.Rules.{Rules}
use Rattle.rx_note.specs.Choices.{Choice}
use Rattle.rx_note.specs.Signals.{Signal, Requested, Signals, ◌▸◌, line, waiting}
use Rattle.rx_history.specs.Histories.{History, NoEvents, ◌▹◌, Roster, with_one_more, roster_of, joins, held, is_held, accepts, may_join, followed_by, signalled, opened, may_request, signals, line_of, given_to, waiting_for}
use Rattle.rx_history.proofs.Numbers.{signals_unmade}

or_true : (b : Bool) → (b || true) ≡ true
or_true true = refl
or_true false = refl

or_false : (b : Bool) → (b || false) ≡ b
or_false true = refl
or_false false = refl

-- an observer that has signals keeps them, and one that has none gets none, but by its Join
pub found_fed : (b : Bool) (f : Signals → Signals) (before : Option Signals) → is_some (cond b (option_map f before) before) ≡ is_some before
found_fed true f None = refl
found_fed true f (Some s) = refl
found_fed false f before = refl

held_joined : (same admitted : Bool) (roster : Roster) (o : ℕ) (made : Signals) (before : Option Signals)
    → list_any (λ k. k == o) (roster.joins ∷ []) ≡ (same || false) → (list_any (λ k. k == o) roster.held ≡ true → is_some before ≡ true)
    → list_any (λ k. k == o) (cond admitted (with_one_more roster) roster).held ≡ true → is_some (cond (same && admitted) (Some made) before) ≡ true
held_joined true true roster o made before one others held = refl
held_joined false true roster o made before one others held =
    others
    (sym (or_false (list_any (λ k. k == o) roster.held))
    ∙ ap (λ b. list_any (λ k. k == o) roster.held || b) (sym one)
    ∙ sym (list_any-append (λ k. k == o) roster.held (roster.joins ∷ []))
    ∙ held)
held_joined true false roster o made before one others held = others held
held_joined false false roster o made before one others held = others held

-- of those that stay, each was there
any_kept : (b : Bool) (p : ℕ → Bool) (k : ℕ) (ks : List ℕ) → list_any p (cond b (k ∷ ks) ks) ≡ true → (p k || list_any p ks) ≡ true
any_kept true p k ks any = any
any_kept false p k ks any = ap (λ c. p k || c) any ∙ or_true (p k)

any_first : (first rest more : Bool) → (rest ≡ true → more ≡ true) → (first || rest) ≡ true → (first || more) ≡ true
any_first true rest more later any = refl
any_first false rest more later any = later any

any_filter : (p q : ℕ → Bool) (ks : List ℕ) → list_any p (filter q ks) ≡ true → list_any p ks ≡ true
any_filter p q [] any = any
any_filter p q (k ∷ ks) any =
    any_first (p k) (list_any p (filter q ks)) (list_any p ks) (any_filter p q ks) (any_kept (q k) p k (filter q ks) any)

-- an observer that is held after a Dispose was held before it
pub held_before : (rules : Rules) (H : History) (port who o : ℕ) → is_held rules (H ▹ (port, Dispose who)) o ≡ true → is_held rules H o ≡ true
held_before rules H port who o held = any_filter (λ k. k == o) (λ k. not (k == who)) (roster_of rules.limits H).held held

-- an observer that is held has joined
pub held_made : (rules : Rules) (H : History) (o : ℕ) → is_held rules H o ≡ true → is_some (signals rules H o) ≡ true
held_made rules NoEvents o held = held
held_made rules (H ▹ (port, Emit note at)) o held =
    found_fed (is_held rules H o && accepts rules H note) (λ s. followed_by s (signalled rules H port note)) (signals rules H o)
    ∙ held_made rules H o held
held_made rules (H ▹ (port, Join policy first at)) o held =
    held_joined (joins rules H == o) (may_join rules H) (roster_of rules.limits H) o (opened rules H policy first at) (signals rules H o) refl (held_made rules H o) held
held_made rules (H ▹ (port, Request who n)) o held =
    found_fed ((who == o) && is_held rules H o) (λ s. cond (may_request n s) (s ▸ Requested n) s) (signals rules H o)
    ∙ held_made rules H o held
held_made rules (H ▹ (port, Dispose who)) o held = held_made rules H o (held_before rules H port who o held)

-- an observer that a Join makes is held, and a Join leaves all others
held_join : (same admitted : Bool) (roster : Roster) (o : ℕ) → list_any (λ k. k == o) (roster.joins ∷ []) ≡ (same || false) → (same && admitted) ≡ true
    → list_any (λ k. k == o) (cond admitted (with_one_more roster) roster).held ≡ true
held_join true true roster o one it =
    list_any-append (λ k. k == o) roster.held (roster.joins ∷ []) ∙ ap (λ b. list_any (λ k. k == o) roster.held || b) one ∙ or_true (list_any (λ k. k == o) roster.held)
held_join true false roster o one it = cc
held_join false admitted roster o one it = cc

held_others : (same admitted : Bool) (roster : Roster) (o : ℕ) → list_any (λ k. k == o) (roster.joins ∷ []) ≡ (same || false) → (same && admitted) ≡ false
    → list_any (λ k. k == o) (cond admitted (with_one_more roster) roster).held ≡ list_any (λ k. k == o) roster.held
held_others true true roster o one not_it = cc
held_others false true roster o one not_it =
    list_any-append (λ k. k == o) roster.held (roster.joins ∷ [])
    ∙ ap (λ b. list_any (λ k. k == o) roster.held || b) one
    ∙ or_false (list_any (λ k. k == o) roster.held)
held_others same false roster o one not_it = refl

pub is_held-joined : (rules : Rules) (H : History) (port : ℕ) (policy : Choice) (first at o : ℕ) → ((joins rules H == o) && may_join rules H) ≡ true
    → is_held rules (H ▹ (port, Join policy first at)) o ≡ true
is_held-joined rules H port policy first at o it = held_join (joins rules H == o) (may_join rules H) (roster_of rules.limits H) o refl it

pub is_held-not_joined : (rules : Rules) (H : History) (port : ℕ) (policy : Choice) (first at o : ℕ) → ((joins rules H == o) && may_join rules H) ≡ false
    → is_held rules (H ▹ (port, Join policy first at)) o ≡ is_held rules H o
is_held-not_joined rules H port policy first at o not_it = held_others (joins rules H == o) (may_join rules H) (roster_of rules.limits H) o refl not_it

and_true : (b : Bool) → (b && true) ≡ b
and_true true = refl
and_true false = refl

pub and_false : (b : Bool) → (b && false) ≡ false
and_false true = refl
and_false false = refl

-- an accepted note is signalled to an observer that is held
pub signals-emitted : (rules : Rules) (H : History) (port : ℕ) (note : Note) (at o : ℕ) → accepts rules H note ≡ true → is_held rules H o ≡ true
    → signals rules (H ▹ (port, Emit note at)) o ≡ option_map (λ s. followed_by s (signalled rules H port note)) (signals rules H o)
signals-emitted rules H port note at o accepted held =
    let S = signals rules H o in
    let fed : List Signal → Option Signals = λ more. option_map (λ s. followed_by s more) S in
    ap (λ b. cond (is_held rules H o && b) (fed (signalled rules H port note)) S) accepted
    ∙ ap (λ b. cond (b && true) (fed (signalled rules H port note)) S) held

-- and to no other
pub signals-passed_by : (rules : Rules) (H : History) (port : ℕ) (note : Note) (at o : ℕ) → is_held rules H o ≡ false
    → signals rules (H ▹ (port, Emit note at)) o ≡ signals rules H o
signals-passed_by rules H port note at o left =
    let S = signals rules H o in
    ap (λ b. cond (b && accepts rules H note) (option_map (λ s. followed_by s (signalled rules H port note)) S) S) left

-- a note that is refused changes nothing
pub signals-refused : (rules : Rules) (H : History) (port : ℕ) (note : Note) (at o : ℕ) → accepts rules H note ≡ false
    → signals rules (H ▹ (port, Emit note at)) o ≡ signals rules H o
signals-refused rules H port note at o refused =
    let S = signals rules H o in
    ap (λ b. cond (is_held rules H o && b) (option_map (λ s. followed_by s (signalled rules H port note)) S) S) refused
    ∙ ap (λ b. cond b (option_map (λ s. followed_by s (signalled rules H port note)) S) S) (and_false (is_held rules H o))

-- a Join that is not accepted, or of another, changes nothing for an observer
pub signals-not_joined : (rules : Rules) (H : History) (port : ℕ) (policy : Choice) (first at o : ℕ) → ((joins rules H == o) && may_join rules H) ≡ false
    → signals rules (H ▹ (port, Join policy first at)) o ≡ signals rules H o
signals-not_joined rules H port policy first at o not_it =
    ap (λ b. cond b (Some (opened rules H policy first at)) (signals rules H o)) not_it

-- its own Join makes it
pub signals-joined : (rules : Rules) (H : History) (port : ℕ) (policy : Choice) (first at o : ℕ) → ((joins rules H == o) && may_join rules H) ≡ true
    → signals rules (H ▹ (port, Join policy first at)) o ≡ Some (opened rules H policy first at)
signals-joined rules H port policy first at o it =
    ap (λ b. cond b (Some (opened rules H policy first at)) (signals rules H o)) it

-- the request of another, or of one that is not held, changes nothing
pub signals-not_requested : (rules : Rules) (H : History) (port who n o : ℕ) → ((who == o) && is_held rules H o) ≡ false
    → signals rules (H ▹ (port, Request who n)) o ≡ signals rules H o
signals-not_requested rules H port who n o other =
    let S = signals rules H o in
    ap (λ b. cond b (option_map (λ s. cond (may_request n s) (s ▸ Requested n) s) S) S) other

-- its own is added where it is held and may request so many
pub signals-requested : (rules : Rules) (H : History) (port who n o : ℕ) → ((who == o) && is_held rules H o) ≡ true
    → signals rules (H ▹ (port, Request who n)) o ≡ option_map (λ s. cond (may_request n s) (s ▸ Requested n) s) (signals rules H o)
signals-requested rules H port who n o own =
    let S = signals rules H o in
    ap (λ b. cond b (option_map (λ s. cond (may_request n s) (s ▸ Requested n) s) S) S) own

-- an observer that has no signals has not joined
none_fed : (b : Bool) (f : Signals → Signals) (before : Option Signals) → cond b (option_map f before) before ≡ None → before ≡ None
none_fed true f None e = refl
none_fed true f (Some s) e = cc
none_fed false f before e = e

not_both : (s : Signals) → Some s ≡ None → ⊥
not_both s e = cc

not_made : (same admitted : Bool) (roster : Roster) (o : ℕ) (made : Signals) (before : Option Signals) → (roster.joins == o) ≡ same
    → cond (same && admitted) (Some made) before ≡ None → (before ≡ None → roster.joins ≤ o)
    → (cond admitted (with_one_more roster) roster).joins ≤ o
not_made true true roster o made before at none low = absurd (not_both made none)
not_made false true roster o made before at none low = let le = low none in grind (arith, nat_tests)
not_made true false roster o made before at none low = low none
not_made false false roster o made before at none low = low none

pub signals_none : (rules : Rules) (H : History) (o : ℕ) → signals rules H o ≡ None → joins rules H ≤ o
signals_none rules NoEvents o none = omega arith
signals_none rules (H ▹ (port, Emit note at)) o none =
    signals_none rules H o (none_fed (is_held rules H o && accepts rules H note) (λ s. followed_by s (signalled rules H port note)) (signals rules H o) none)
signals_none rules (H ▹ (port, Join policy first at)) o none =
    not_made (joins rules H == o) (may_join rules H) (roster_of rules.limits H) o (opened rules H policy first at) (signals rules H o) refl none (signals_none rules H o)
signals_none rules (H ▹ (port, Request who n)) o none =
    signals_none rules H o
    (none_fed ((who == o) && is_held rules H o) (λ s. cond (may_request n s) (s ▸ Requested n) s) (signals rules H o) none)
signals_none rules (H ▹ (port, Dispose who)) o none = signals_none rules H o none

signals_below : (rules : Rules) (H : History) (o : ℕ) (s : Option Signals) → signals rules H o ≡ s → is_some s ≡ ltb o (joins rules H)
signals_below rules H o None none = sym (le-ltb o (joins rules H) (signals_none rules H o none))
signals_below rules H o (Some s) is =
    elim (cases_lt o (joins rules H)) [
      | inl below ↦ sym (lt-ltb o (joins rules H) below)
      | inr past ↦ let none = signals_unmade rules H o past in absurd (not_both s (sym is ∙ none))
    ]

-- the observers that have signals are those below the count of the Joins
pub is_some-signals : (rules : Rules) (H : History) (o : ℕ) → is_some (signals rules H o) ≡ ltb o (joins rules H)
is_some-signals rules H o = signals_below rules H o (signals rules H o) refl

-- an observer that is held is to be given its line, and what it was not given waits
pub line_of-held : (rules : Rules) (H : History) (o : ℕ) (s : Signals) → signals rules H o ≡ Some s → is_held rules H o ≡ true → line_of rules H o ≡ line s
line_of-held rules H o s is held =
    ap (λ b. cond b (option_map_or line (signals rules H o) []) (given_to rules H o)) held ∙ ap (λ t. option_map_or line t []) is

pub waiting_for-held : (rules : Rules) (H : History) (o : ℕ) (s : Signals) → signals rules H o ≡ Some s → is_held rules H o ≡ true → waiting_for rules H o ≡ waiting s
waiting_for-held rules H o s is held =
    ap (λ b. cond b (option_map_or waiting (signals rules H o) []) []) held ∙ ap (λ t. option_map_or waiting t []) is

-- one that is not has the line that it was given, and nothing waits
pub line_of-left : (rules : Rules) (H : History) (o : ℕ) → is_held rules H o ≡ false → line_of rules H o ≡ given_to rules H o
line_of-left rules H o left = ap (λ b. cond b (option_map_or line (signals rules H o) []) (given_to rules H o)) left

pub waiting_for-left : (rules : Rules) (H : History) (o : ℕ) → is_held rules H o ≡ false → waiting_for rules H o ≡ []
waiting_for-left rules H o left = ap (λ b. cond b (option_map_or waiting (signals rules H o) []) []) left
