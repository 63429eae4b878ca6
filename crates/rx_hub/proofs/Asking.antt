-- A step that takes a request.
use Rattle.std.proofs.Common.{◌≡◌, ℕ, suc, ◌+◌, ◌<◌, ◌≤◌, Bool, true, false, cond, ◌&&◌, ◌||◌, ◌==◌, not, nat_lt, nat_le, List, [], ◌∷◌, ◌++◌, length, take, drop, get_or, set, Option, None, Some, position, Result, Ok, Err, IsOk, refl, sym, ap, subst, ◌∙◌, arith}
use Rattle.std.proofs.lemmas.List.{length-map, get_or-map}
use Rattle.std.proofs.Math.Seq.{map-set_same}
use Rattle.std.proofs.lemmas.List.Folds.{list_any_at}
use Rattle.std.proofs.lemmas.List.Quantifiers.{position-Some}
use Rattle.std.proofs.lemmas.Bool.Decides.{nat_tests}
use Rattle.rx_hub.proofs.Positions.{position-None}
use Rattle.std.specs.Option.{option_map, option_map_or}
use Rattle.std.specs.List.{list_any, flat_map}
use Rattle.rx_note.specs.declared.given.Given.{Given}
use Rattle.rx_note.specs.declared.note.Note.{Note}
use Rattle.rx_note.specs.declared.event.Event.TheVariants.{Request}
use Rattle.rx_note.specs.declared.answer.Answer.{Answer}
use Rattle.rx_note.specs.declared.answer.Answer.TheVariants.{Asked}
use Rattle.rx_note.specs.declared.refusal.Refusal.{Refusal}
use Rattle.rx_note.specs.declared.refusal.Refusal.TheVariants as refused
use Rattle.rx_note.specs.Signals.{Signals, ◌▸◌, Requested, owed}
use Rattle.rx_history.specs.Histories.{History, ◌▹◌, joins, is_held, may_request, signals, addressed, owed_to, answer}
use Rattle.rx_history.proofs.Numbers.{Rises, AllDiffer, held_rises, differ_before, differ_beyond}
use Rattle.rx_subject.proofs.Standing.{stands_request}
use Rattle.rx_note.specs.declared.strategy.Strategy.TheVariants.{Buffer}
use Rattle.rx_note.specs.declared.errors.Errors.TheVariants.{Delay}
use Rattle.rx_subject.specs.Subjects.{SubjectState}
use Rattle.rx_hub.specs.Subscriptions.{Observer, numbers, Asks, AsksAt}
use Rattle.rx_hub.specs.Hubs.{HubState, StandsFor, Steps, Misses, Takes}
use Rattle.rx_hub.proofs.Quiet.{quiet, request_quiet, requested, and_false}
use Rattle.rx_hub.proofs.Joining.{both_true, turned}
use Rattle.rx_hub.proofs.Tables.{gains, gains-more, AllStand-at, AllStand-set, all_gains-at}

-- THE ANSWER

-- the answer to a request, by what decides it
abbrev pub told : ℕ → Bool → ℕ → Result Answer Refusal
told n held_now owing =
    cond (n == 0) (Err refused.ZeroRequest) (cond (not held_now) (Err refused.NoObserver) (cond (nat_le (owing + n) 4294967295) (Ok Asked) (Err refused.TooMuch)))

told_zero : (n : ℕ) (held_now : Bool) (owing : ℕ) → n ≡ 0 → told n held_now owing ≡ Err refused.ZeroRequest
told_zero n held_now owing zero_n = let is : (n == 0) ≡ true = grind (arith, nat_tests) in
    ap (λ b. cond b (Err refused.ZeroRequest) (cond (not held_now) (Err refused.NoObserver) (cond (nat_le (owing + n) 4294967295) (Ok Asked) (Err refused.TooMuch)))) is

pub told_more : (n : ℕ) (held_now : Bool) (owing : ℕ) → 0 < n → told n held_now owing ≡ cond (not held_now) (Err refused.NoObserver) (cond (nat_le (owing + n) 4294967295) (Ok Asked) (Err refused.TooMuch))
told_more n held_now owing more = let is : (n == 0) ≡ false = grind (arith, nat_tests) in
    ap (λ b. cond b (Err refused.ZeroRequest) (cond (not held_now) (Err refused.NoObserver) (cond (nat_le (owing + n) 4294967295) (Ok Asked) (Err refused.TooMuch)))) is

pub request_zero : (hub : HubState) (outs_so_far : List Given) (H : History) (port who n : ℕ)
    → n ≡ 0 → StandsFor hub H → Steps hub hub outs_so_far outs_so_far (Err refused.ZeroRequest) H (port, Request who n)
request_zero hub outs_so_far H port who n zero_n stands =
    quiet hub outs_so_far (Err refused.ZeroRequest) H (port, Request who n) stands
    (sym (told_zero n (is_held hub.rules H who) (owed_to hub.rules H who) zero_n))
    (request_quiet hub.rules H port who n
    (λ o s one held_now is. let none : nat_lt 0 n ≡ false = grind (arith, nat_tests) in ap (λ b. b && nat_le (owed s + n) 4294967295) none))

-- NO OBSERVER OF THAT NUMBER

-- where no observer has the number, it is not held
unnamed : (who : ℕ) (observers : List Observer) → ((k : ℕ) (d : Observer) → k < length observers → ((get_or observers k d).who == who) ≡ false)
    → list_any (λ k. k == who) (numbers observers) ≡ false
unnamed who [] none = refl
unnamed who (first ∷ observers) none =
    ap (λ b. b || list_any (λ k. k == who) (numbers observers)) (none 0 first (omega arith))
    ∙ unnamed who observers (λ k d lt. none (suc k) d (omega arith))

-- where no place has the number, it is not held
pub absent : (who : ℕ) (observers : List Observer) → position (λ (o : Observer). o.who == who) observers ≡ None
    → list_any (λ k. k == who) (numbers observers) ≡ false
absent who observers none = unnamed who observers (λ k d lt. position-None (λ (o : Observer). o.who == who) observers none k d lt)

pub request_unheld : (hub : HubState) (outs_so_far : List Given) (H : History) (port who n : ℕ)
    → 0 < n → position (λ (o : Observer). o.who == who) hub.observers ≡ None → StandsFor hub H
    → Steps hub hub outs_so_far outs_so_far (Err refused.NoObserver) H (port, Request who n)
request_unheld hub outs_so_far H port who n more none stands =
    let unheld : is_held hub.rules H who ≡ false = ap (list_any (λ k. k == who)) (sym stands.held_are) ∙ absent who hub.observers none in
    quiet hub outs_so_far (Err refused.NoObserver) H (port, Request who n) stands
    (sym (told_more n (is_held hub.rules H who) (owed_to hub.rules H who) more
    ∙ ap (λ b. cond (not b) (Err refused.NoObserver) (cond (nat_le (owed_to hub.rules H who + n) 4294967295) (Ok Asked) (Err refused.TooMuch))) unheld))
    (request_quiet hub.rules H port who n (λ o s one held_now is.
    let same : who ≡ o = grind (arith, nat_tests) in
    let cross : is_held hub.rules H o ≡ false = ap (is_held hub.rules H) (sym same) ∙ unheld in cc))

-- MORE THAN MAY BE OWED

-- what the observer at a place owes
owed_at : (hub : HubState) (H : History) (who k : ℕ) (d : Observer) → StandsFor hub H → k < length hub.observers
    → (get_or hub.observers k d).who ≡ who → (s : Signals) × (signals hub.rules H who ≡ Some s) × ((get_or hub.observers k d).lane.owing ≡ owed s)
owed_at hub H who k d stands lt named =
    let at = AllStand-at (signals hub.rules H) hub.observers k d lt stands.lanes_stand in
    (at.these, ap (signals hub.rules H) (sym named) ∙ at.are, at.stand.owing)

-- an observer at a place is held
pub held_at : (hub : HubState) (H : History) (who k : ℕ) (d : Observer) → StandsFor hub H → k < length hub.observers
    → (get_or hub.observers k d).who ≡ who → is_held hub.rules H who ≡ true
held_at hub H who k d stands lt named =
    let at : get_or (numbers hub.observers) k d.who ≡ (get_or hub.observers k d).who = get_or-map (λ (o : Observer). o.who) hub.observers k d d.who lt in
    let among = among-at who (numbers hub.observers) k d.who (omega (arith, lt, length-map hub.observers (λ (o : Observer). o.who))) (at ∙ named) in
    ap (list_any (λ j. j == who)) (sym stands.held_are) ∙ among
  where
    among-at : (who : ℕ) (ks : List ℕ) (k d : ℕ) → k < length ks → get_or ks k d ≡ who → list_any (λ j. j == who) ks ≡ true
    among-at who ks k d lt is = list_any_at (λ j. j == who) ks k d lt (let same : get_or ks k d ≡ who = is in grind (arith, nat_tests))

pub request_too_much : (hub : HubState) (outs_so_far : List Given) (H : History) (port who n k : ℕ) (d : Observer)
    → 0 < n → 4294967296 ≤ (get_or hub.observers k d).lane.owing + n → k < length hub.observers → (get_or hub.observers k d).who ≡ who → StandsFor hub H
    → Steps hub hub outs_so_far outs_so_far (Err refused.TooMuch) H (port, Request who n)
request_too_much hub outs_so_far H port who n k d more much lt named stands =
    let s = owed_at hub H who k d stands lt named in
    let held_now = held_at hub H who k d stands lt named in
    let owing : owed_to hub.rules H who ≡ owed s.0 = ap (λ t. option_map_or owed t 0) s.1 in
    let over : nat_le (owed s.0 + n) 4294967295 ≡ false = let e : (get_or hub.observers k d).lane.owing ≡ owed s.0 = s.2 in grind (arith, nat_tests) in
    quiet hub outs_so_far (Err refused.TooMuch) H (port, Request who n) stands
    (sym (told_more n (is_held hub.rules H who) (owed_to hub.rules H who) more
    ∙ ap (λ b. cond (not b) (Err refused.NoObserver) (cond (nat_le (owed_to hub.rules H who + n) 4294967295) (Ok Asked) (Err refused.TooMuch))) held_now
    ∙ ap (λ m. cond (nat_le (m + n) 4294967295) (Ok Asked) (Err refused.TooMuch)) owing
    ∙ ap (λ b. cond b (Ok Asked) (Err refused.TooMuch)) over))
    (request_quiet hub.rules H port who n (λ o t one held_o is.
    let same : who ≡ o = grind (arith, nat_tests) in
    let both_of : Some t ≡ Some s.0 = sym is ∙ ap (signals hub.rules H) (sym same) ∙ s.1 in
    let these : t ≡ s.0 = cc in
    ap (λ m. nat_lt 0 n && nat_le (m + n) 4294967295) (ap owed these)
    ∙ ap (λ b. nat_lt 0 n && b) over ∙ and_false (nat_lt 0 n)))

-- A REQUEST THAT IS TAKEN

-- the request would be taken
pub request_accepted : (hub : HubState) (H : History) (who n k : ℕ) (d : Observer) → 0 < n → (get_or hub.observers k d).lane.owing + n < 4294967296
    → k < length hub.observers → (get_or hub.observers k d).who ≡ who → StandsFor hub H → answer hub.rules H (Request who n) ≡ Ok Asked
request_accepted hub H who n k d more few lt named stands =
    let s = owed_at hub H who k d stands lt named in
    let held_now = held_at hub H who k d stands lt named in
    let owing : owed_to hub.rules H who ≡ owed s.0 = ap (λ t. option_map_or owed t 0) s.1 in
    let within : nat_le (owed s.0 + n) 4294967295 ≡ true = let e : (get_or hub.observers k d).lane.owing ≡ owed s.0 = s.2 in grind (arith, nat_tests) in
    told_more n (is_held hub.rules H who) (owed_to hub.rules H who) more
    ∙ ap (λ b. cond (not b) (Err refused.NoObserver) (cond (nat_le (owed_to hub.rules H who + n) 4294967295) (Ok Asked) (Err refused.TooMuch))) held_now
    ∙ ap (λ m. cond (nat_le (m + n) 4294967295) (Ok Asked) (Err refused.TooMuch)) owing
    ∙ ap (λ b. cond b (Ok Asked) (Err refused.TooMuch)) within

pub one_asked : (n : ℕ) (one h may : Bool) (s : Signals) (before : Option Signals) → one ≡ true → h ≡ true → may_request n s ≡ true → before ≡ Some s
    → requested n one h before ≡ Some (s ▸ Requested n)
one_asked n true true may s before e f g is =
    ap (option_map (λ t. cond (may_request n t) (t ▸ Requested n) t)) is ∙ ap (λ b. Some (cond b (s ▸ Requested n) s)) g
one_asked n true false may s before e f g is = cc
one_asked n false h may s before e f g is = cc

pub not_asked : (n : ℕ) (one h : Bool) (before : Option Signals) → one ≡ false → requested n one h before ≡ before
not_asked n true h before e = cc
not_asked n false h before e = refl

pub request_taken : (hub : HubState) (new : Observer) (notes : List Note) (before after : List Given) (H : History) (port who n k : ℕ) (d : Observer)
    → 0 < n → (get_or hub.observers k d).lane.owing + n < 4294967296 → k < length hub.observers → (get_or hub.observers k d).who ≡ who
    → Asks (get_or hub.observers k d) new n notes → after ≡ before ++ addressed who notes → StandsFor hub H
    → Steps hub (record hub { observers = set hub.observers k new }) before after (Ok Asked) H (port, Request who n)
request_taken hub new notes before after H port who n k d more few lt named asks gave stands =
    let rules = hub.rules in
    let table : ℕ → Option Signals = signals rules H in
    let later : ℕ → Option Signals = signals rules (H ▹ (port, Request who n)) in
    let old = get_or hub.observers k d in
    let at = AllStand-at table hub.observers k d lt stands.lanes_stand in
    let s : Signals = at.these in
    let is : table who ≡ Some s = ap table (sym named) ∙ at.are in
    let held_now = held_at hub H who k d stands lt named in
    let within : nat_le (owed s + n) 4294967295 ≡ true = let e : old.lane.owing ≡ owed s = at.stand.owing in grind (arith, nat_tests) in
    let some : nat_lt 0 n ≡ true = grind (arith, nat_tests) in
    let self : (who == who) ≡ true = grind (arith, nat_tests) in
    let mine : later who ≡ Some (s ▸ Requested n) = one_asked n (who == who) (is_held rules H who) true s (table who) self held_now (both_true (nat_lt 0 n) (nat_le (owed s + n) 4294967295) some within) is in
    let same : (o : ℕ) → (o == who) ≡ false → later o ≡ table o = λ o differ. not_asked n (who == o) (is_held rules H o) (table o) (turned o who differ) in
    let number : new.who ≡ who = asks.number ∙ named in
    let len : k < length (numbers hub.observers) = omega (arith, lt, length-map hub.observers (λ (o : Observer). o.who)) in
    let placed : get_or (numbers hub.observers) k d.who ≡ who = get_or-map (λ (o : Observer). o.who) hub.observers k d d.who lt ∙ named in
    let rises : Rises 0 (numbers hub.observers) (joins rules H) = subst (λ (ks : List ℕ). Rises 0 ks (joins rules H)) (sym stands.held_are) (held_rises rules.limits H) in
    let ahead : AllDiffer who (take k (numbers hub.observers)) =
    subst (λ (w : ℕ). AllDiffer w (take k (numbers hub.observers))) placed (differ_before 0 (numbers hub.observers) (joins rules H) k d.who rises len) in
    let behind : AllDiffer who (drop (suc k) (numbers hub.observers)) =
    subst (λ (w : ℕ). AllDiffer w (drop (suc k) (numbers hub.observers))) placed (differ_beyond 0 (numbers hub.observers) (joins rules H) k d.who rises len) in
    let gained : flat_map (gains table later) (numbers hub.observers) ≡ addressed who notes =
    all_gains-at table later who (numbers hub.observers) k d.who len ahead behind same
    ∙ ap (gains table later) placed ∙ gains-more table later who s (s ▸ Requested n) notes is mine (asks.gives s at.stand) in
    record {
      answers = sym (request_accepted hub H who n k d more few lt named stands);
      gives = gave ∙ ap (λ os. before ++ os) (sym gained ∙ ap (flat_map (gains table later)) stands.held_are);
      goes_on = record {
        subject_stands = stands_request hub.subject rules H port who n stands.subject_stands;
        joins_are = stands.joins_are;
        held_are = map-set_same (λ (o : Observer). o.who) hub.observers k new d asks.number ∙ stands.held_are;
        lanes_stand = AllStand-set table later who hub.observers k new lt ahead behind same
            (record { these = s ▸ Requested n; are = ap later number ∙ mine; stand = asks.goes_on s at.stand }) stands.lanes_stand;
      };
    }

-- THE SAME, AS THE CODE HAS THEM

-- an observer that stands for the places of no observer
pub nobody : Observer
nobody = record { who = 0; lane = record { policy = record { strategy = Buffer; errors = Delay }; items = []; last = []; ended = false; owing = 0 } }

-- the number of the observer at the place
pub named : (observers : List Observer) (who place : ℕ) (d : Observer) → Some place ≡ position (λ (o : Observer). o.who == who) observers
    → (place < length observers) × ((get_or observers place d).who ≡ who)
named observers who place d found =
    let is = position-Some (λ (o : Observer). o.who == who) observers place d (sym found) in
    let same : ((get_or observers place d).who == who) ≡ true = is.1 in
    (is.0, grind (arith, nat_tests))

pub request_more : (hub new : HubState) (outs_so_far after : List Given) (port who n k : ℕ) (d : Observer)
    → k < length hub.observers → (get_or hub.observers k d).who ≡ who → 0 < n → 4294967296 ≤ (get_or hub.observers k d).lane.owing + n
    → new ≡ hub → after ≡ outs_so_far → Takes hub new outs_so_far after (Err refused.TooMuch) (port, Request who n)
request_more hub new outs_so_far after port who n k d lt named more much same_hub same_outs =
    let Done : HubState → List Given → Type 0 = λ h gs. Takes hub h outs_so_far gs (Err refused.TooMuch) (port, Request who n) in
    let done : Done hub outs_so_far = record { rules = refl; took = λ H stands. request_too_much hub outs_so_far H port who n k d more much lt named stands } in
    subst (λ (gs : List Given). Done new gs) (sym same_outs) (subst (λ (h : HubState). Done h outs_so_far) (sym same_hub) done)

pub request_done : (hub : HubState) (subject : SubjectState) (mids news : List Observer) (before after : List Given) (port who n k : ℕ) (d : Observer)
    → k < length hub.observers → (get_or hub.observers k d).who ≡ who → 0 < n → (get_or hub.observers k d).lane.owing + n < 4294967296
    → AsksAt hub.observers mids k d n before after → news ≡ mids → subject ≡ hub.subject
    → Takes hub (record hub { subject = subject; observers = news }) before after (Ok Asked) (port, Request who n)
request_done hub subject mids news before after port who n k d lt named more few asks same_news same_subject =
    let Done : SubjectState → List Observer → Type 0 = λ s os. Takes hub (record hub { subject = s; observers = os }) before after (Ok Asked) (port, Request who n) in
    let done : Done hub.subject (set hub.observers k asks.observer) = record {
      rules = refl;
      took = λ H stands.
          request_taken hub asks.observer asks.asks.0 before after H port who n k d more few lt named asks.asks.2
          (asks.asks.1 ∙ ap (λ w. before ++ addressed w asks.asks.0) named) stands;
    } in
    subst (λ (s : SubjectState). Done s news) (sym same_subject) (subst (λ (os : List Observer). Done hub.subject os) (sym (same_news ∙ asks.news_are)) done)

pub request_missed : (hub new : HubState) (outs_so_far after : List Given) (port who n k : ℕ) (d : Observer)
    → k < length hub.observers → (get_or hub.observers k d).who ≡ who → 0 < n → (get_or hub.observers k d).lane.owing + n < 4294967296
    → new ≡ hub → after ≡ outs_so_far → Misses hub new outs_so_far after (port, Request who n)
request_missed hub new outs_so_far after port who n k d lt named more few same_hub same_outs = record {
  hub = same_hub;
  given = same_outs;
  accepted = λ H stands. (refl, ok_asked (answer hub.rules H (Request who n)) (request_accepted hub H who n k d more few lt named stands));
}
  where
    ok_asked : (result : Result Answer Refusal) → result ≡ Ok Asked → IsOk result
    ok_asked (Ok answer) e = refl
    ok_asked (Err refusal) e = cc
