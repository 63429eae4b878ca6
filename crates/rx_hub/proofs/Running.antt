-- A run grows by one step at its end.
use Rattle.std.proofs.Common.{◌≡◌, ◌≢◌, ℕ, zero, suc, ◌+◌, ◌-◌, ◌^◌, ◌≤◌, Bool, true, false, cond, if◌then◌else◌, min, replicate, List, [], ◌∷◌, ◌++◌, length, Result, Ok, Err, inl, inr, refl, sym, ap, subst, ◌∙◌, arith, append_assoc, append-nil, length-append, add-one}
use Rattle.std.proofs.lemmas.List.{map-append}
use Rattle.rx_note.specs.declared.given.Given.{Given}
use Rattle.rx_note.specs.declared.rules.Rules.{Rules}
use Rattle.rx_note.specs.declared.answer.Answer.{Answer}
use Rattle.rx_note.specs.declared.event.Event.TheVariants.{Request}
use Rattle.rx_note.specs.declared.refusal.Refusal.{Refusal}
use Rattle.rx_note.specs.declared.refusal.Refusal.TheVariants.{Ended, Full, Spent, ZeroRequest, NoObserver, TooMuch, Memory}
use Rattle.rx_history.specs.Histories.{History, ◌▹◌, Entry, answer, outs}
use Rattle.rx_hub.specs.declared.step.Step.{Step}
use Rattle.rx_hub.specs.Hubs.{HubState, HubView, StandsFor, Steps, MayMiss, is_miss}
use Rattle.rx_hub.specs.Runs.{made, step_outs, misses_with, IsAnswer, after_run, run_outs, run_places, AreAnswers, misses_after, missed_in, TakesEach, RequestsEach, results_of, places_of, Ran}

-- THE LAST STEP OF THE DEFINITIONS

-- the history after one step more
after_run-push : (rules : Rules) (H : History) (entries : List Entry) (results : List (Result Answer Refusal)) (entry : Entry) (result : Result Answer Refusal)
    → AreAnswers rules H entries results
    → after_run H (entries ++ entry ∷ []) (results ++ result ∷ []) ≡ made (after_run H entries results) entry result
after_run-push rules H [] [] entry result all = refl
after_run-push rules H [] (r ∷ results) entry result all = absurd all
after_run-push rules H (e ∷ entries) [] entry result all = absurd all
after_run-push rules H (e ∷ entries) (r ∷ results) entry result all = after_run-push rules (made H e r) entries results entry result all.1

-- what is given with one step more
run_outs-push : (rules : Rules) (H : History) (entries : List Entry) (results : List (Result Answer Refusal)) (entry : Entry) (result : Result Answer Refusal)
    → AreAnswers rules H entries results
    → run_outs rules H (entries ++ entry ∷ []) (results ++ result ∷ []) ≡ run_outs rules H entries results ++ step_outs rules (after_run H entries results) entry result
run_outs-push rules H [] [] entry result all = append-nil (step_outs rules H entry result)
run_outs-push rules H [] (r ∷ results) entry result all = absurd all
run_outs-push rules H (e ∷ entries) [] entry result all = absurd all
run_outs-push rules H (e ∷ entries) (r ∷ results) entry result all =
    ap (λ os. step_outs rules H e r ++ os) (run_outs-push rules (made H e r) entries results entry result all.1)
    ∙ sym (append_assoc (step_outs rules H e r) (run_outs rules (made H e r) entries results) (step_outs rules (after_run (made H e r) entries results) entry result))

-- the places with one step more
run_places-push : (rules : Rules) (H : History) (count : ℕ) (entries : List Entry) (results : List (Result Answer Refusal)) (entry : Entry) (result : Result Answer Refusal)
    → AreAnswers rules H entries results
    → run_places rules H count (entries ++ entry ∷ []) (results ++ result ∷ [])
    ≡ run_places rules H count entries results ++ (count + length (run_outs rules H (entries ++ entry ∷ []) (results ++ result ∷ []))) ∷ []
run_places-push rules H count [] [] entry result all =
    ap (λ os. (count + length os) ∷ []) (sym (append-nil (step_outs rules H entry result)))
run_places-push rules H count [] (r ∷ results) entry result all = absurd all
run_places-push rules H count (e ∷ entries) [] entry result all = absurd all
run_places-push rules H count (e ∷ entries) (r ∷ results) entry result all =
    let now = count + length (step_outs rules H e r) in
    let rest = run_outs rules (made H e r) (entries ++ entry ∷ []) (results ++ result ∷ []) in
    let sum : now + length rest ≡ count + length (step_outs rules H e r ++ rest) = omega (arith, length-append (step_outs rules H e r) rest) in
    ap (λ ns. now ∷ ns) (run_places-push rules (made H e r) now entries results entry result all.1)
    ∙ ap (λ n. now ∷ (run_places rules (made H e r) now entries results ++ n ∷ [])) sum

-- the answers with one more
AreAnswers-push : (rules : Rules) (H : History) (entries : List Entry) (results : List (Result Answer Refusal)) (entry : Entry) (result : Result Answer Refusal)
    → AreAnswers rules H entries results → IsAnswer rules (after_run H entries results) entry result
    → AreAnswers rules H (entries ++ entry ∷ []) (results ++ result ∷ [])
AreAnswers-push rules H [] [] entry result all one = (one, tt)
AreAnswers-push rules H [] (r ∷ results) entry result all one = absurd all
AreAnswers-push rules H (e ∷ entries) [] entry result all one = absurd all
AreAnswers-push rules H (e ∷ entries) (r ∷ results) entry result all one =
    (all.0, AreAnswers-push rules (made H e r) entries results entry result all.1 one)

-- the count of the Memory answers with one answer more
pub misses_after-push : (misses : ℕ) (results : List (Result Answer Refusal)) (result : Result Answer Refusal)
    → misses_after misses (results ++ result ∷ []) ≡ misses_with (misses_after misses results) result
misses_after-push misses [] result = refl
misses_after-push misses (r ∷ results) result = misses_after-push (misses_with misses r) results result

-- THE LAST STEP OF THE CODE

-- a miss is the answer Memory
is_memory : (result : Result Answer Refusal) → is_miss result ≡ true → result ≡ Err Memory
is_memory (Ok answer) miss = cc
is_memory (Err Ended) miss = cc
is_memory (Err Full) miss = cc
is_memory (Err Spent) miss = cc
is_memory (Err ZeroRequest) miss = cc
is_memory (Err NoObserver) miss = cc
is_memory (Err TooMuch) miss = cc
is_memory (Err Memory) miss = refl

-- and what is no miss is not
no_memory : (result : Result Answer Refusal) → is_miss result ≡ false → result ≢ Err Memory
no_memory result other missed = let miss : is_miss result ≡ true = ap is_miss missed in cc

-- a step after K, made or not
pub record Made (rules : Rules) (new : HubState) (before after : List Given) (result : Result Answer Refusal) (K : History) (entry : Entry) : Type 0 where
  pub answers : IsAnswer rules K entry result
  pub gives : after ≡ before ++ step_outs rules K entry result
  pub goes_on : StandsFor new (made K entry result)

-- what a step made, by whether memory was wanting
made_by : (hub new : HubState) (before after : List Given) (result : Result Answer Refusal) (K : History) (entry : Entry) (miss : Bool) → is_miss result ≡ miss
    → StandsFor hub K → (result ≢ Err Memory → Steps hub new before after result K entry)
    → (result ≡ Err Memory → (new ≡ hub) × (after ≡ before)) → (result ≡ Err Memory → MayMiss hub.rules K entry)
    → Made hub.rules new before after result K entry
made_by hub new before after result K entry true is stands steps stays accepted =
    let missed = is_memory result is in
    let same : made K entry result ≡ K = ap (λ b. cond b K (K ▹ entry)) is in
    let nothing : step_outs hub.rules K entry result ≡ [] = ap (λ b. cond b [] (outs hub.rules K entry)) is in
    record {
      answers = inr (missed, accepted missed);
      gives = (stays missed).1 ∙ sym (append-nil before) ∙ ap (λ os. before ++ os) (sym nothing);
      goes_on = subst (λ (J : History). StandsFor new J) (sym same) (subst (λ (h : HubState). StandsFor h K) (sym (stays missed).0) stands);
    }
made_by hub new before after result K entry false is stands steps stays accepted =
    let step = steps (no_memory result is) in
    let more : made K entry result ≡ K ▹ entry = ap (λ b. cond b K (K ▹ entry)) is in
    let all : step_outs hub.rules K entry result ≡ outs hub.rules K entry = ap (λ b. cond b [] (outs hub.rules K entry)) is in
    record {
      answers = inl step.answers;
      gives = step.gives ∙ ap (λ os. before ++ os) (sym all);
      goes_on = subst (λ (J : History). StandsFor new J) (sym more) step.goes_on;
    }

-- the count of the Memory answers after a step
pub misses_by : (old new : ℕ) (result : Result Answer Refusal) (miss : Bool) → is_miss result ≡ miss
    → (result ≢ Err Memory → new ≡ old) → (result ≡ Err Memory → new ≡ min (old + 1) (2 ^ 64 - 1)) → new ≡ misses_with old result
misses_by old new result true is kept counted = counted (is_memory result is) ∙ sym (ap (λ b. cond b (min (old + 1) (2 ^ 64 - 1)) old) is)
misses_by old new result false is kept counted = kept (no_memory result is) ∙ sym (ap (λ b. cond b (min (old + 1) (2 ^ 64 - 1)) old) is)

-- ONE CALL FOR SEVERAL STEPS

missed_in-push : (results : List (Result Answer Refusal)) (result : Result Answer Refusal) → missed_in (results ++ result ∷ []) ≡ missed_in results + (if is_miss result then 1 else 0)
missed_in-push [] result = omega arith
missed_in-push (r ∷ results) result = omega (arith, missed_in-push results result)

-- no more are Memory than there are
pub missed_in-few : (results : List (Result Answer Refusal)) → missed_in results ≤ length results
missed_in-few [] = omega arith
missed_in-few (r ∷ results) = by_test (is_miss r) (missed_in-few results)
  where
    by_test : (b : Bool) → missed_in results ≤ length results → (if b then 1 else 0) + missed_in results ≤ suc (length results)
    by_test true few = omega arith
    by_test false few = omega arith

replicate-push : {A : Type 0} (n : ℕ) (x : A) → replicate n x ++ x ∷ [] ≡ replicate (suc n) x
replicate-push zero x = refl
replicate-push (suc n) x = ap (λ xs. x ∷ xs) (replicate-push n x)

-- none was taken yet
pub RequestsEach-none : (hub : HubView) (port who : ℕ) (outs_so_far : List Given) → RequestsEach hub hub port who 0 outs_so_far outs_so_far 0
RequestsEach-none hub port who outs_so_far = record {
  results = [];
  count = refl;
  each = λ H stands. record { answers = tt; gives = sym (append-nil outs_so_far); goes_on = stands };
  misses = refl;
  missed_are = refl;
}

-- one more was
pub RequestsEach-push : (old hub new : HubView) (port who n : ℕ) (result : Result Answer Refusal) (before mid after : List Given) (missed missed_after : ℕ)
    → RequestsEach old hub port who n before mid missed → hub.state.rules ≡ old.state.rules
    → (result ≢ Err Memory → (K : History) → StandsFor hub.state K → Steps hub.state new.state mid after result K (port, Request who 1))
    → (result ≡ Err Memory → (new.state ≡ hub.state) × (after ≡ mid))
    → (result ≡ Err Memory → (K : History) → StandsFor hub.state K → MayMiss hub.state.rules K (port, Request who 1))
    → new.misses ≡ misses_with hub.misses result → missed_after ≡ missed + (if is_miss result then 1 else 0)
    → RequestsEach old new port who (n + 1) before after missed_after
RequestsEach-push old hub new port who n result before mid after missed missed_after so_far same step stays accepted misses missed_are =
    let entry : Entry = (port, Request who 1) in
    let rules = old.state.rules in
    let longer : replicate n entry ++ entry ∷ [] ≡ replicate (n + 1) entry = rw add-one (replicate-push n entry) in
    record {
      results = so_far.results ++ result ∷ [];
      count = omega (arith, length-append so_far.results (result ∷ []), so_far.count);
      each = λ H stands.
          let ran = so_far.each H stands in
          let K = after_run H (replicate n entry) so_far.results in
          let one : Made hub.state.rules new.state mid after result K entry =
          made_by hub.state new.state mid after result K entry (is_miss result) refl ran.goes_on (λ other. step other K ran.goes_on) stays (λ lost. accepted lost K ran.goes_on) in
          let mine : Made rules new.state mid after result K entry = subst (λ (r : Rules). Made r new.state mid after result K entry) same one in
          subst (λ (entries : List Entry). TakesEach rules new.state H entries (so_far.results ++ result ∷ []) before after) longer (record {
            answers = AreAnswers-push rules H (replicate n entry) so_far.results entry result ran.answers mine.answers;
            gives =
                mine.gives ∙ ap (λ os. os ++ step_outs rules K entry result) ran.gives
                ∙ append_assoc before (run_outs rules H (replicate n entry) so_far.results) (step_outs rules K entry result)
                ∙ ap (λ os. before ++ os) (sym (run_outs-push rules H (replicate n entry) so_far.results entry result ran.answers));
            goes_on = subst (λ (J : History). StandsFor new.state J) (sym (after_run-push rules H (replicate n entry) so_far.results entry result ran.answers)) mine.goes_on;
          });
      misses = misses ∙ ap (λ m. misses_with m result) so_far.misses ∙ sym (misses_after-push old.misses so_far.results result);
      missed_are = missed_are ∙ ap (λ m. m + (if is_miss result then 1 else 0)) so_far.missed_are ∙ sym (missed_in-push so_far.results result);
    }

-- THE RUN

-- no step yet
pub Ran-none : (hub : HubState) (H : History) → StandsFor hub H → Ran hub.rules hub H [] [] []
Ran-none hub H stands = record { answers = tt; gives = refl; places = refl; goes_on = stands }

-- one step more
pub Ran-push : (rules : Rules) (hub new : HubState) (H : History) (entries : List Entry) (entry : Entry) (steps : List Step) (result : Result Answer Refusal) (before after : List Given)
    → hub.rules ≡ rules → Ran rules hub H entries steps before
    → (result ≢ Err Memory → (K : History) → StandsFor hub K → Steps hub new before after result K entry)
    → (result ≡ Err Memory → (new ≡ hub) × (after ≡ before))
    → (result ≡ Err Memory → (K : History) → StandsFor hub K → MayMiss hub.rules K entry)
    → Ran rules new H (entries ++ entry ∷ []) (steps ++ record { result = result; outs_to = length after } ∷ []) after
Ran-push rules hub new H entries entry steps result before after same ran step stays accepted =
    let old = results_of steps in
    let K = after_run H entries old in
    let one : Made hub.rules new before after result K entry =
    made_by hub new before after result K entry (is_miss result) refl ran.goes_on (λ other. step other K ran.goes_on) stays (λ missed. accepted missed K ran.goes_on) in
    let mine : Made rules new before after result K entry = subst (λ (r : Rules). Made r new before after result K entry) same one in
    let last : Step = record { result = result; outs_to = length after } in
    let more : results_of (steps ++ last ∷ []) ≡ old ++ result ∷ [] = map-append (λ (s : Step). s.result) steps (last ∷ []) in
    let all_outs : after ≡ run_outs rules H (entries ++ entry ∷ []) (old ++ result ∷ []) =
    mine.gives ∙ ap (λ os. os ++ step_outs rules K entry result) ran.gives ∙ sym (run_outs-push rules H entries old entry result ran.answers) in
    let from_none : length after ≡ 0 + length after = omega arith in
    let all_places : places_of (steps ++ last ∷ []) ≡ run_places rules H 0 (entries ++ entry ∷ []) (old ++ result ∷ []) =
    map-append (λ (s : Step). s.outs_to) steps (last ∷ []) ∙ ap (λ ns. ns ++ length after ∷ []) ran.places
    ∙ ap (λ n. run_places rules H 0 entries old ++ n ∷ []) from_none
    ∙ ap (λ os. run_places rules H 0 entries old ++ (0 + length os) ∷ []) all_outs ∙ sym (run_places-push rules H 0 entries old entry result ran.answers) in
    record {
      answers = subst (λ (rs : List (Result Answer Refusal)). AreAnswers rules H (entries ++ entry ∷ []) rs) (sym more)
          (AreAnswers-push rules H entries old entry result ran.answers mine.answers);
      gives = all_outs ∙ ap (run_outs rules H (entries ++ entry ∷ [])) (sym more);
      places = all_places ∙ ap (run_places rules H 0 (entries ++ entry ∷ [])) (sym more);
      goes_on = subst (λ (J : History). StandsFor new J)
          (sym (after_run-push rules H entries old entry result ran.answers) ∙ ap (after_run H (entries ++ entry ∷ [])) (sym more)) mine.goes_on;
    }
