-- A request for several items is so many requests for one item each.
use Rattle.std.proofs.Common.{◌≡◌, ℕ, zero, suc, ◌+◌, ◌-◌, ◌<◌, ◌≤◌, min, Bool, true, false, cond, ◌&&◌, ◌==◌, not, nat_lt, nat_le, List, [], ◌∷◌, ◌++◌, length, take, drop, map, replicate, Option, None, Some, Result, Ok, Err, inl, inr, refl, sym, ap, subst, ◌∙◌, arith, append_assoc, append-nil, length-append, add-one}
use Rattle.std.proofs.lemmas.List.{length-take, length-replicate, map-append}
use Rattle.std.proofs.Math.Seq.{drop-append_seam}
use Rattle.std.proofs.lemmas.Bool.Decides.{nat_tests}
use Rattle.std.specs.Option.{option_map, option_map_or}
use Rattle.std.specs.List.{flat_map}
use Rattle.rx_note.specs.declared.given.Given.{Given}
use Rattle.rx_note.specs.declared.note.Note.{Note}
use Rattle.rx_note.specs.declared.rules.Rules.{Rules}
use Rattle.rx_note.specs.declared.event.Event.TheVariants.{Request}
use Rattle.rx_note.specs.declared.answer.Answer.{Answer}
use Rattle.rx_note.specs.declared.answer.Answer.TheVariants.{Asked}
use Rattle.rx_note.specs.declared.refusal.Refusal.{Refusal}
use Rattle.rx_note.specs.declared.refusal.Refusal.TheVariants as refused
use Rattle.rx_note.specs.Signals.{Signals, ◌▸◌, Requested, demand, line_items, ending, released, owed, given}
use Rattle.rx_note.proofs.Released.{released-more}
use Rattle.rx_history.specs.Histories.{History, ◌▹◌, joins, held, is_held, may_request, end_of, item_count, stamp, signals, addressed, owed_to, answer, outs}
use Rattle.rx_history.proofs.Numbers.{Rises, AllDiffer, differ_below, held_rises}
use Rattle.rx_subject.specs.Subjects.{SubjectState}
use Rattle.rx_subject.specs.Subjects as subjects
use Rattle.rx_subject.specs.Windows.{window_of}
use Rattle.rx_subject.proofs.Standing.{stands_request}
use Rattle.rx_lane.specs.Lanes.{LaneState}
use Rattle.rx_lane.specs.Lanes as lanes
use Rattle.rx_hub.specs.Subscriptions.{Observer, StandsAt, AllStand}
use Rattle.rx_hub.specs.Hubs.{HubState, HubView, StandsFor, Steps}
use Rattle.rx_hub.specs.Runs.{AreAnswers, after_run, run_outs, misses_after, missed_in, RequestsEach}
use Rattle.rx_hub.proofs.Asking.{one_asked, not_asked, told_more}
use Rattle.rx_hub.proofs.Joining.{both_true, turned}
use Rattle.rx_hub.proofs.Quiet.{requested}
use Rattle.rx_hub.proofs.Tables.{given_by, gains, gains-same, all_gains-differ}

-- THE SIGNALS OF ONE OBSERVER

-- what a lane stands for after one request it stands for after the same in two
two_stand : (lane : LaneState) (s : Signals) (a b : ℕ) → lanes.StandsFor lane (s ▸ Requested (a + b)) → lanes.StandsFor lane (s ▸ Requested a ▸ Requested b)
two_stand lane s a b h =
    let sum : demand s + (a + b) ≡ demand s + a + b = omega arith in
    record {
      policy = h.policy;
      items = h.items ∙ ap (λ d. drop d (line_items s)) sum;
      last = h.last ∙ ap (λ d. cond (nat_le (length (line_items s)) d) [] (ending s)) sum;
      ended = h.ended;
      owing = h.owing ∙ ap (λ d. d - length (take d (line_items s))) sum;
    }

-- both give the same
two_give : (s : Signals) (a b : ℕ) → given (s ▸ Requested (a + b)) ≡ given (s ▸ Requested a ▸ Requested b)
two_give s a b =
    let sum : demand s + (a + b) ≡ demand s + a + b = omega arith in
    ap (λ d. released d (line_items s) (ending s)) sum

-- a request gives more
more_given : (s : Signals) (a : ℕ) → (notes : List Note) × (given (s ▸ Requested a) ≡ given s ++ notes)
more_given s a = (_, released-more (demand s) a (line_items s) (ending s))

-- and by it no more than so much is owed
owed_by : (s : Signals) (a : ℕ) → owed (s ▸ Requested a) ≤ owed s + a
owed_by s a = omega (arith, length-take (demand s + a) (line_items s), length-take (demand s) (line_items s))

-- ONE OBSERVER OF A TABLE

-- the request may be made
abbrev Fits : ℕ → Bool → Bool → Option Signals → Type 0
Fits n one h before = (s : Signals) → one ≡ true → h ≡ true → before ≡ Some s → owed s + n ≤ 4294967295

may : (n : ℕ) (s : Signals) → 0 < n → owed s + n ≤ 4294967295 → may_request n s ≡ true
may n s more few =
    let some : nat_lt 0 n ≡ true = grind (arith, nat_tests) in
    let within : nat_le (owed s + n) 4294967295 ≡ true = grind (arith, nat_tests) in
    both_true (nat_lt 0 n) (nat_le (owed s + n) 4294967295) some within

-- what it leaves to the observer that it names
asked : (n : ℕ) (s : Signals) → 0 < n → owed s + n ≤ 4294967295 → requested n true true (Some s) ≡ Some (s ▸ Requested n)
asked n s more few = one_asked n true true true s (Some s) refl refl (may n s more few) refl

-- the same in two
asked_twice : (a b : ℕ) (s : Signals) → 0 < a → 0 < b → owed s + (a + b) ≤ 4294967295
    → requested b true true (requested a true true (Some s)) ≡ Some (s ▸ Requested a ▸ Requested b)
asked_twice a b s some more few =
    ap (requested b true true) (asked a s some (omega arith))
    ∙ asked b (s ▸ Requested a) more (omega (arith, owed_by s a))

twice_stand : (a b : ℕ) (one h : Bool) (before : Option Signals) (lane : LaneState) → 0 < a → 0 < b → Fits (a + b) one h before
    → StandsAt lane (requested (a + b) one h before) → StandsAt lane (requested b one h (requested a one h before))
twice_stand a b false h before lane some more few at = at
twice_stand a b true false before lane some more few at = at
twice_stand a b true true None lane some more few at = at
twice_stand a b true true (Some s) lane some more few at =
    let fits = few s refl refl refl in
    let is : Some at.these ≡ Some (s ▸ Requested (a + b)) = sym at.are ∙ asked (a + b) s (omega arith) fits in
    let these : at.these ≡ s ▸ Requested (a + b) = cc in
    record {
      these = s ▸ Requested a ▸ Requested b;
      are = asked_twice a b s some more fits;
      stand = two_stand lane s a b (subst (λ (t : Signals). lanes.StandsFor lane t) these at.stand);
    }

-- what was given by signals that there may be
abbrev given_of : Option Signals → List Note
given_of t = option_map_or given t []

-- what was given, and then more, and then more
seams : (first second third : List Note) → drop (length first) ((first ++ second) ++ third) ≡ drop (length first) (first ++ second) ++ drop (length (first ++ second)) ((first ++ second) ++ third)
seams first second third =
    ap (drop (length first)) (append_assoc first second third)
    ∙ drop-append_seam first (second ++ third)
    ∙ ap (λ xs. xs ++ third) (sym (drop-append_seam first second))
    ∙ ap (λ xs. drop (length first) (first ++ second) ++ xs) (sym (drop-append_seam (first ++ second) third))

-- nothing more, twice
no_seams : (notes : List Note) → drop (length notes) notes ≡ drop (length notes) notes ++ drop (length notes) notes
no_seams notes =
    let none : drop (length notes) notes ≡ [] = ap (drop (length notes)) (sym (append-nil notes)) ∙ drop-append_seam notes [] in
    ap (λ xs. xs ++ drop (length notes) notes) (sym none)

-- what an observer is given by one request it is given by the same in two
twice_give : (a b : ℕ) (one h : Bool) (before : Option Signals) → 0 < a → 0 < b → Fits (a + b) one h before
    → drop (length (given_of before)) (given_of (requested (a + b) one h before))
    ≡ drop (length (given_of before)) (given_of (requested a one h before))
    ++ drop (length (given_of (requested a one h before))) (given_of (requested b one h (requested a one h before)))
twice_give a b false h before some more few = no_seams (given_of before)
twice_give a b true false before some more few = no_seams (given_of before)
twice_give a b true true None some more few = no_seams []
twice_give a b true true (Some s) some more few =
    let fits = few s refl refl refl in
    let first : List Note = given s in
    let second = more_given s a in
    let third = more_given (s ▸ Requested a) b in
    let once : List Note = given_of (requested a true true (Some s)) in
    let two : given (s ▸ Requested a ▸ Requested b) ≡ (first ++ second.0) ++ third.0 = third.1 ∙ ap (λ xs. xs ++ third.0) second.1 in
    let by_one : given_of (requested (a + b) true true (Some s)) ≡ (first ++ second.0) ++ third.0 =
    ap given_of (asked (a + b) s (omega arith) fits) ∙ two_give s a b ∙ two in
    let by_first : once ≡ first ++ second.0 = ap given_of (asked a s some (omega arith)) ∙ second.1 in
    let by_two : given_of (requested b true true (requested a true true (Some s))) ≡ (first ++ second.0) ++ third.0 =
    ap given_of (asked_twice a b s some more fits) ∙ two in
    ap (drop (length first)) by_one
    ∙ seams first second.0 third.0
    ∙ ap (λ xs. drop (length first) xs ++ drop (length xs) ((first ++ second.0) ++ third.0)) (sym by_first)
    ∙ ap (λ ys. drop (length first) once ++ drop (length once) ys) (sym by_two)

-- what is owed grows by no more than what is requested
owed_more : (n : ℕ) (one h : Bool) (before : Option Signals) → option_map_or owed (requested n one h before) 0 ≤ option_map_or owed before 0 + n
owed_more n false h before = omega arith
owed_more n true false before = omega arith
owed_more n true true None = omega arith
owed_more n true true (Some s) = by_test (may_request n s)
  where
    by_test : (b : Bool) → owed (cond b (s ▸ Requested n) s) ≤ owed s + n
    by_test true = owed_by s n
    by_test false = omega arith

-- ALL OBSERVERS

-- each queue stands for the signals of both alike
all_twice : (once twice : ℕ → Option Signals) (observers : List Observer)
    → ((o : ℕ) (lane : LaneState) → StandsAt lane (once o) → StandsAt lane (twice o)) → AllStand once observers → AllStand twice observers
all_twice once twice [] each all = tt
all_twice once twice (observer ∷ observers) each all = (each observer.who observer.lane all.0, all_twice once twice observers each all.1)

-- of observers whose numbers differ one is given more, at once or in two
split : (table first once twice : ℕ → Option Signals) (who low high : ℕ) (ks : List ℕ) → Rises low ks high
    → ((o : ℕ) → (o == who) ≡ false → first o ≡ table o)
    → ((o : ℕ) → (o == who) ≡ false → twice o ≡ first o)
    → ((o : ℕ) → (o == who) ≡ false → once o ≡ table o)
    → ((o : ℕ) → gains table once o ≡ gains table first o ++ gains first twice o)
    → flat_map (gains table once) ks ≡ flat_map (gains table first) ks ++ flat_map (gains first twice) ks
split table first once twice who low high [] rises to_first to_twice to_once parts = refl
split table first once twice who low high (k ∷ ks) rises to_first to_twice to_once parts =
    by_test (k == who) refl (split table first once twice who (k + 1) high ks rises.1 to_first to_twice to_once parts)
  where
    a : List Given
    a = flat_map (gains table first) ks

    b : List Given
    b = flat_map (gains first twice) ks

    by_test : (is : Bool) → (k == who) ≡ is → flat_map (gains table once) ks ≡ a ++ b
        → gains table once k ++ flat_map (gains table once) ks ≡ (gains table first k ++ a) ++ (gains first twice k ++ b)
    by_test true is rest =
        let same : k ≡ who = grind (arith, nat_tests) in
        let differ : AllDiffer who ks = subst (λ (w : ℕ). AllDiffer w ks) same (differ_below (k + 1) ks high k rises.1 (omega arith)) in
        let no_a : a ≡ [] = all_gains-differ table first who ks differ to_first in
        let no_b : b ≡ [] = all_gains-differ first twice who ks differ to_twice in
        ap (λ xs. gains table once k ++ xs) (all_gains-differ table once who ks differ to_once)
        ∙ append-nil (gains table once k) ∙ parts k
        ∙ ap (λ xs. xs ++ gains first twice k) (sym (append-nil (gains table first k)) ∙ ap (λ xs. gains table first k ++ xs) (sym no_a))
        ∙ ap (λ xs. (gains table first k ++ a) ++ xs) (sym (append-nil (gains first twice k)) ∙ ap (λ xs. gains first twice k ++ xs) (sym no_b))
    by_test false is rest =
        ap (λ xs. xs ++ flat_map (gains table once) ks) (gains-same table once k (to_once k is))
        ∙ rest
        ∙ ap (λ xs. (xs ++ a) ++ b) (sym (gains-same table first k (to_first k is)))
        ∙ ap (λ xs. (gains table first k ++ a) ++ (xs ++ b)) (sym (gains-same first twice k (to_twice k is)))

-- THE ANSWER

-- what a request has to meet
asked_when : (z h t : Bool) → cond z (Err refused.ZeroRequest) (cond (not h) (Err refused.NoObserver) (cond t (Ok Asked) (Err refused.TooMuch))) ≡ Ok Asked
    → (h ≡ true) × (t ≡ true)
asked_when true h t is = cc
asked_when false false t is = cc
asked_when false true false is = cc
asked_when false true true is = (refl, refl)

-- and that it is taken where it does
asked_then : (rules : Rules) (H : History) (who n : ℕ) → 0 < n → is_held rules H who ≡ true → owed_to rules H who + n ≤ 4294967295
    → answer rules H (Request who n) ≡ Ok Asked
asked_then rules H who n some held_now few =
    let not_zero : (n == 0) ≡ false = grind (arith, nat_tests) in
    let within : nat_le (owed_to rules H who + n) 4294967295 ≡ true = grind (arith, nat_tests) in
    told_more n (is_held rules H who) (owed_to rules H who) some
    ∙ ap (λ b. cond (not b) (Err refused.NoObserver) (cond (nat_le (owed_to rules H who + n) 4294967295) (Ok Asked) (Err refused.TooMuch))) held_now
    ∙ ap (λ b. cond b (Ok Asked) (Err refused.TooMuch)) within

-- THE SUBJECT

-- a request changes nothing of what is kept for later joiners
window_request : (rules : Rules) (H : History) (port who n : ℕ) → window_of rules H ≡ window_of rules (H ▹ (port, Request who n))
window_request rules H port who n =
    let of_it : SubjectState = record { kind = rules.kind; terminal = end_of H; clock = stamp rules H; count = item_count rules H; window = window_of rules H } in
    let stands : subjects.StandsFor of_it rules H = record { kind_is = refl; end_is = refl; stamp_is = refl; count_is = refl; window_is = refl } in
    (stands_request of_it rules H port who n stands).window_is

-- ONE REQUEST AHEAD OF THE OTHERS

fits_all : (rules : Rules) (H : History) (who n : ℕ) → owed_to rules H who + n ≤ 4294967295 → (o : ℕ) → Fits n (who == o) (is_held rules H o) (signals rules H o)
fits_all rules H who n few o s one held_o is =
    let same : who ≡ o = grind (arith, nat_tests) in
    let owing : owed_to rules H who ≡ owed s = ap (λ t. option_map_or owed t 0) (ap (signals rules H) same ∙ is) in
    omega arith

-- the hub stands for both alike
stands_ahead : (hub : HubState) (H : History) (port who b : ℕ) → 0 < b → owed_to hub.rules H who + (1 + b) ≤ 4294967295
    → StandsFor hub (H ▹ (port, Request who (1 + b))) → StandsFor hub (H ▹ (port, Request who 1) ▹ (port, Request who b))
stands_ahead hub H port who b more few stands =
    let rules = hub.rules in
    let now = stands.subject_stands in
    record {
      subject_stands = record {
        kind_is = now.kind_is;
        end_is = now.end_is;
        stamp_is = now.stamp_is;
        count_is = now.count_is;
        window_is =
            now.window_is ∙ sym (window_request rules H port who (1 + b)) ∙ window_request rules H port who 1
            ∙ window_request rules (H ▹ (port, Request who 1)) port who b;
      };
      joins_are = stands.joins_are;
      held_are = stands.held_are;
      lanes_stand =
          all_twice (signals rules (H ▹ (port, Request who (1 + b)))) (signals rules (H ▹ (port, Request who 1) ▹ (port, Request who b))) hub.observers
          (λ o lane. twice_stand 1 b (who == o) (is_held rules H o) (signals rules H o) lane (omega arith) more (fits_all rules H who (1 + b) few o))
          stands.lanes_stand;
    }

-- and both give the same
outs_ahead : (rules : Rules) (H : History) (port who b : ℕ) → 0 < b → owed_to rules H who + (1 + b) ≤ 4294967295
    → outs rules H (port, Request who (1 + b)) ≡ outs rules H (port, Request who 1) ++ outs rules (H ▹ (port, Request who 1)) (port, Request who b)
outs_ahead rules H port who b more few =
    let table : ℕ → Option Signals = signals rules H in
    let first : ℕ → Option Signals = signals rules (H ▹ (port, Request who 1)) in
    let once : ℕ → Option Signals = signals rules (H ▹ (port, Request who (1 + b))) in
    let twice : ℕ → Option Signals = signals rules (H ▹ (port, Request who 1) ▹ (port, Request who b)) in
    split table first once twice who 0 (joins rules H) (held rules H) (held_rises rules.limits H)
    (λ o differ. not_asked 1 (who == o) (is_held rules H o) (table o) (turned o who differ))
    (λ o differ. not_asked b (who == o) (is_held rules H o) (first o) (turned o who differ))
    (λ o differ. not_asked (1 + b) (who == o) (is_held rules H o) (table o) (turned o who differ))
    (λ o.
    ap (addressed o) (twice_give 1 b (who == o) (is_held rules H o) (table o) (omega arith) more (fits_all rules H who (1 + b) few o))
    ∙ map-append (λ (note : Note). record { who = o; note = note }) (drop (length (given_by table o)) (given_by first o)) (drop (length (given_by first o)) (given_by twice o)))

-- SO MANY

-- what so many requests for one item each are answered and give, and what the hub stands for behind them, where it stands for one for all
pub record IsSingly (hub : HubState) (H : History) (port who n : ℕ) : Type 0 where
  pub answers : AreAnswers hub.rules H (replicate n (port, Request who 1)) (replicate n (Ok Asked))
  pub gives : run_outs hub.rules H (replicate n (port, Request who 1)) (replicate n (Ok Asked)) ≡ outs hub.rules H (port, Request who n)
  pub goes_on : StandsFor hub (after_run H (replicate n (port, Request who 1)) (replicate n (Ok Asked)))

pub singly : (hub : HubState) (H : History) (port who n : ℕ) → answer hub.rules H (Request who n) ≡ Ok Asked
    → StandsFor hub (H ▹ (port, Request who n)) → IsSingly hub H port who n
singly hub H port who zero taken stands = cc
singly hub H port who (suc zero) taken stands = record {
  answers = (inl (sym taken), tt);
  gives = append-nil (outs hub.rules H (port, Request who 1));
  goes_on = stands;
}
singly hub H port who (suc (suc m)) taken stands =
    let rules = hub.rules in
    let n : ℕ = suc (suc m) in
    let b : ℕ = suc m in
    let One : History = H ▹ (port, Request who 1) in
    let tests = asked_when (n == 0) (is_held rules H who) (nat_le (owed_to rules H who + n) 4294967295) taken in
    let sum : n ≡ 1 + b = omega arith in
    let within : nat_le (owed_to rules H who + n) 4294967295 ≡ true = tests.1 in
    let few : owed_to rules H who + n ≤ 4294967295 = grind (arith, nat_tests) in
    let few_all : owed_to rules H who + (1 + b) ≤ 4294967295 = omega arith in
    let some : 0 < b = omega arith in
    let first : answer rules H (Request who 1) ≡ Ok Asked = asked_then rules H who 1 (omega arith) tests.0 (omega arith) in
    let owing : owed_to rules One who ≤ owed_to rules H who + 1 = owed_more 1 (who == who) (is_held rules H who) (signals rules H who) in
    let others : answer rules One (Request who b) ≡ Ok Asked = asked_then rules One who b some tests.0 (omega arith) in
    let ahead = stands_ahead hub H port who b some few_all (subst (λ (k : ℕ). StandsFor hub (H ▹ (port, Request who k))) sum stands) in
    let rest = singly hub One port who (suc m) others ahead in
    record {
      answers = (inl (sym first), rest.answers);
      gives =
          ap (λ xs. outs rules H (port, Request who 1) ++ xs) rest.gives ∙ sym (outs_ahead rules H port who b some few_all)
          ∙ ap (λ k. outs rules H (port, Request who k)) (sym sum);
      goes_on = rest.goes_on;
    }

-- AS THE CODE HAS IT

-- what is taken is taken as a request is
taken_is : (z h t : Bool) (a : Answer) → Ok a ≡ cond z (Err refused.ZeroRequest) (cond (not h) (Err refused.NoObserver) (cond t (Ok Asked) (Err refused.TooMuch)))
    → cond z (Err refused.ZeroRequest) (cond (not h) (Err refused.NoObserver) (cond t (Ok Asked) (Err refused.TooMuch))) ≡ Ok Asked
taken_is true h t a is = cc
taken_is false false t a is = cc
taken_is false true false a is = cc
taken_is false true true a is = refl

misses_asked : (n misses : ℕ) → misses_after misses (replicate n (Ok Asked)) ≡ misses
misses_asked zero misses = refl
misses_asked (suc n) misses = misses_asked n misses

missed_asked : (n : ℕ) → missed_in (replicate n (Ok Asked)) ≡ 0
missed_asked zero = refl
missed_asked (suc n) = omega (arith, missed_asked n)

-- one request for all of them was taken
pub RequestsEach-asked : (old new : HubView) (port who n : ℕ) (before after : List Given) (a : Answer)
    → new.state.rules ≡ old.state.rules → new.misses ≡ old.misses
    → ((H : History) → StandsFor old.state H → Steps old.state new.state before after (Ok a) H (port, Request who n))
    → RequestsEach old new port who n before after 0
RequestsEach-asked old new port who n before after a same misses step = record {
  results = replicate n (Ok Asked);
  count = length-replicate n (Ok Asked);
  each = λ H stands.
      let did = step H stands in
      let rules = old.state.rules in
      let took : answer rules H (Request who n) ≡ Ok Asked =
      taken_is (n == 0) (is_held rules H who) (nat_le (owed_to rules H who + n) 4294967295) a did.answers in
      let all = singly new.state H port who n (ap (λ (r : Rules). answer r H (Request who n)) same ∙ took) did.goes_on in
      let here : run_outs new.state.rules H (replicate n (port, Request who 1)) (replicate n (Ok Asked)) ≡ outs new.state.rules H (port, Request who n) = all.gives in
      record {
        answers = subst (λ (r : Rules). AreAnswers r H (replicate n (port, Request who 1)) (replicate n (Ok Asked))) same all.answers;
        gives =
            did.gives ∙ ap (λ (r : Rules). before ++ outs r H (port, Request who n)) (sym same) ∙ ap (λ os. before ++ os) (sym here)
            ∙ ap (λ (r : Rules). before ++ run_outs r H (replicate n (port, Request who 1)) (replicate n (Ok Asked))) same;
        goes_on = all.goes_on;
      };
  misses = misses ∙ sym (misses_asked n old.misses);
  missed_are = sym (missed_asked n);
}
