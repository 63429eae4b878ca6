-- A step by which an observer leaves.
use Rattle.std.proofs.Common.{◌≡◌, ℕ, suc, zero, ◌+◌, ◌<◌, ◌==◌, Bool, true, false, cond, not, List, [], ◌∷◌, ◌++◌, length, map, take, drop, get_or, Option, None, position, Ok, Err, refl, sym, ap, subst, ◌∙◌, arith, add-one, append-nil}
use Rattle.std.specs.List.{list_any, filter}
use Rattle.std.proofs.lemmas.Bool.Decides.{nat_tests}
use Rattle.std.proofs.lemmas.List.{length-map, get_or-map}
use Rattle.rx_note.specs.declared.given.Given.{Given}
use Rattle.rx_note.specs.declared.event.Event.TheVariants.{Dispose}
use Rattle.rx_note.specs.declared.answer.Answer.TheVariants.{Left}
use Rattle.rx_note.specs.declared.refusal.Refusal.TheVariants as refused
use Rattle.rx_note.specs.Signals.{Signals}
use Rattle.rx_history.specs.Histories.{History, ◌▹◌, joins, held, is_held, signals}
use Rattle.rx_history.proofs.Gaining.{absent_differ}
use Rattle.rx_history.proofs.Numbers.{Rises, AllDiffer, held_rises, differ_before, differ_beyond}
use Rattle.rx_subject.proofs.Standing.{stands_dispose}
use Rattle.rx_subject.specs.Subjects.{SubjectState}
use Rattle.rx_hub.specs.Subscriptions.{Observer, numbers, AllStand}
use Rattle.rx_hub.specs.Hubs.{HubState, StandsFor, Steps, Takes}
use Rattle.rx_hub.proofs.Asking.{absent, held_at}
use Rattle.rx_hub.proofs.Quiet.{quiet}
use Rattle.rx_hub.proofs.Tables.{all_gains-same}

-- the numbers without one of them
abbrev left : ℕ → List ℕ → List ℕ
left who ks = filter (λ o. not (o == who)) ks

stays : (b : Bool) (k : ℕ) (rest : List ℕ) → b ≡ false → cond (not b) (k ∷ rest) rest ≡ k ∷ rest
stays true k rest is = cc
stays false k rest is = refl

goes : (b : Bool) (k : ℕ) (rest : List ℕ) → b ≡ true → cond (not b) (k ∷ rest) rest ≡ rest
goes true k rest is = refl
goes false k rest is = cc

-- numbers that all differ from the one that leaves stay
all_stay : (who : ℕ) (ks : List ℕ) → AllDiffer who ks → left who ks ≡ ks
all_stay who [] differ = refl
all_stay who (k ∷ ks) differ = stays (k == who) k (left who ks) differ.0 ∙ ap (λ xs. k ∷ xs) (all_stay who ks differ.1)

-- of numbers that rise one goes
one_goes : (who : ℕ) (ks : List ℕ) (k d : ℕ) → k < length ks → get_or ks k d ≡ who → AllDiffer who (take k ks) → AllDiffer who (drop (suc k) ks)
    → left who ks ≡ take k ks ++ drop (suc k) ks
one_goes who [] k d lt is before after = absurd (omega arith)
one_goes who (x ∷ ks) zero d lt is before after =
    let own : (x == who) ≡ true = grind (arith, nat_tests) in
    goes (x == who) x (left who ks) own ∙ all_stay who ks after
one_goes who (x ∷ ks) (suc k) d lt is before after =
    stays (x == who) x (left who ks) before.0 ∙ ap (λ xs. x ∷ xs) (one_goes who ks k d (omega arith) is before.1 after)

-- what is told of all but one
map-left : {A B : Type 0} (f : A → B) (xs : List A) (k : ℕ) → map f (take k xs ++ drop (suc k) xs) ≡ take k (map f xs) ++ drop (suc k) (map f xs)
map-left f [] zero = refl
map-left f [] (suc k) = refl
map-left f (x ∷ xs) zero = refl
map-left f (x ∷ xs) (suc k) = ap (λ ys. f x ∷ ys) (map-left f xs k)

AllStand-left : (table : ℕ → Option Signals) (observers : List Observer) (k : ℕ) → AllStand table observers → AllStand table (take k observers ++ drop (suc k) observers)
AllStand-left table [] zero all = tt
AllStand-left table [] (suc k) all = tt
AllStand-left table (observer ∷ observers) zero all = all.1
AllStand-left table (observer ∷ observers) (suc k) all = (all.0, AllStand-left table observers k all.1)

-- NO OBSERVER OF THAT NUMBER

pub leave_unheld : (hub : HubState) (outs_so_far : List Given) (H : History) (port who : ℕ)
    → position (λ (o : Observer). o.who == who) hub.observers ≡ None → StandsFor hub H
    → Steps hub hub outs_so_far outs_so_far (Err refused.NoObserver) H (port, Dispose who)
leave_unheld hub outs_so_far H port who none stands =
    let unheld : is_held hub.rules H who ≡ false = ap (list_any (λ k. k == who)) (sym stands.held_are) ∙ absent who hub.observers none in
    quiet hub outs_so_far (Err refused.NoObserver) H (port, Dispose who) stands
    (sym (ap (λ b. cond b (Ok Left) (Err refused.NoObserver)) unheld))
    (record {
      subject = λ subject stands. stands_dispose subject hub.rules H port who stands;
      roster = ap (λ (ks : List ℕ). record { joins = joins hub.rules H; held = ks }) (all_stay who (held hub.rules H) (absent_differ who (held hub.rules H) unheld));
      same = λ o. refl;
    })

-- ONE THAT IS HELD

leave_taken : (hub : HubState) (outs_so_far : List Given) (H : History) (port who k : ℕ) (d : Observer)
    → k < length hub.observers → (get_or hub.observers k d).who ≡ who → StandsFor hub H
    → Steps hub (record hub { observers = take k hub.observers ++ drop (suc k) hub.observers }) outs_so_far outs_so_far (Ok Left) H (port, Dispose who)
leave_taken hub outs_so_far H port who k d lt named stands =
    let table : ℕ → Option Signals = signals hub.rules H in
    let ks : List ℕ = numbers hub.observers in
    let held_now = held_at hub H who k d stands lt named in
    let len : k < length ks = omega (arith, lt, length-map hub.observers (λ (o : Observer). o.who)) in
    let placed : get_or ks k d.who ≡ who = get_or-map (λ (o : Observer). o.who) hub.observers k d d.who lt ∙ named in
    let rises : Rises 0 ks (joins hub.rules H) = subst (λ (ns : List ℕ). Rises 0 ns (joins hub.rules H)) (sym stands.held_are) (held_rises hub.rules.limits H) in
    let ahead : AllDiffer who (take k ks) = subst (λ (w : ℕ). AllDiffer w (take k ks)) placed (differ_before 0 ks (joins hub.rules H) k d.who rises len) in
    let behind : AllDiffer who (drop (suc k) ks) = subst (λ (w : ℕ). AllDiffer w (drop (suc k) ks)) placed (differ_beyond 0 ks (joins hub.rules H) k d.who rises len) in
    let none = all_gains-same table (signals hub.rules (H ▹ (port, Dispose who))) (held hub.rules (H ▹ (port, Dispose who))) (λ o. refl) in
    record {
      answers = sym (ap (λ b. cond b (Ok Left) (Err refused.NoObserver)) held_now);
      gives = sym (ap (λ os. outs_so_far ++ os) none ∙ append-nil outs_so_far);
      goes_on = record {
        subject_stands = stands_dispose hub.subject hub.rules H port who stands.subject_stands;
        joins_are = stands.joins_are;
        held_are =
            map-left (λ (o : Observer). o.who) hub.observers k
            ∙ sym (one_goes who ks k d.who len placed ahead behind)
            ∙ ap (left who) stands.held_are;
        lanes_stand = AllStand-left table hub.observers k stands.lanes_stand;
      };
    }

-- the same, as the code has it
pub leave_done : (hub : HubState) (subject : SubjectState) (mids news : List Observer) (outs_so_far : List Given) (port who k : ℕ) (d : Observer)
    → k < length hub.observers → (get_or hub.observers k d).who ≡ who → mids ≡ take k hub.observers ++ drop (k + 1) hub.observers → news ≡ mids → subject ≡ hub.subject
    → Takes hub (record hub { subject = subject; observers = news }) outs_so_far outs_so_far (Ok Left) (port, Dispose who)
leave_done hub subject mids news outs_so_far port who k d lt named left_are same_news same_subject =
    let Done : SubjectState → List Observer → Type 0 = λ s os. Takes hub (record hub { subject = s; observers = os }) outs_so_far outs_so_far (Ok Left) (port, Dispose who) in
    let same : news ≡ take k hub.observers ++ drop (suc k) hub.observers = same_news ∙ left_are ∙ ap (λ n. take k hub.observers ++ drop n hub.observers) (add-one k) in
    let done : Done hub.subject (take k hub.observers ++ drop (suc k) hub.observers) = record {
      rules = refl;
      took = λ H stands. leave_taken hub outs_so_far H port who k d lt named stands;
    } in
    subst (λ (s : SubjectState). Done s news) (sym same_subject) (subst (λ (os : List Observer). Done hub.subject os) (sym same) done)
