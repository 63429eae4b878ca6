-- What each observer is given along a run.
use Rattle.std.proofs.Common.{◌≡◌, ℕ, zero, suc, ◌+◌, ◌<◌, Bool, true, false, cond, List, [], ◌∷◌, ◌++◌, length, take, get_or, Result, refl, sym, ap, ◌∙◌, arith, append_assoc, append-nil, length-append}
use Rattle.rx_note.specs.declared.given.Given.{Given}
use Rattle.rx_note.specs.declared.rules.Rules.{Rules}
use Rattle.rx_note.specs.declared.answer.Answer.{Answer}
use Rattle.rx_note.specs.declared.refusal.Refusal.{Refusal}
use Rattle.rx_history.specs.Histories.{History, ◌▹◌, Entry, given_to, outs}
use Rattle.rx_history.specs.Delivery.{notes_for}
use Rattle.rx_history.proofs.Gaining.{notes_for-append, outs_are_given}
use Rattle.rx_hub.specs.declared.step.Step.{Step}
use Rattle.rx_hub.specs.Hubs.{HubState, is_miss}
use Rattle.rx_hub.specs.Runs.{made, step_outs, after_run, run_outs, run_places, AreAnswers, results_of, places_of, Ran, GivesEach}

-- ONE OBSERVER

-- a step gives to an observer what its given gains
made_given : (rules : Rules) (H : History) (entry : Entry) (o : ℕ) (miss : Bool)
    → given_to rules (cond miss H (H ▹ entry)) o ≡ given_to rules H o ++ notes_for o (cond miss [] (outs rules H entry))
made_given rules H entry o true = sym (append-nil (given_to rules H o))
made_given rules H entry o false = outs_are_given rules H o entry

-- and so do several steps
run_given : (rules : Rules) (H : History) (entries : List Entry) (results : List (Result Answer Refusal)) (o : ℕ)
    → given_to rules (after_run H entries results) o ≡ given_to rules H o ++ notes_for o (run_outs rules H entries results)
run_given rules H [] results o = sym (append-nil (given_to rules H o))
run_given rules H (entry ∷ entries) [] o = sym (append-nil (given_to rules H o))
run_given rules H (entry ∷ entries) (result ∷ results) o =
    let rest = run_outs rules (made H entry result) entries results in
    let now = step_outs rules H entry result in
    run_given rules (made H entry result) entries results o
    ∙ ap (λ notes. notes ++ notes_for o rest) (made_given rules H entry o (is_miss result))
    ∙ append_assoc (given_to rules H o) (notes_for o now) (notes_for o rest)
    ∙ ap (λ notes. given_to rules H o ++ notes) (sym (notes_for-append o now rest))

-- UP TO A STEP

take_front : (n : ℕ) (front more : List Given) → n ≡ length front → take n (front ++ more) ≡ front
take_front n [] more is = ap (λ k. take k more) is
take_front zero (given ∷ front) more is = absurd (omega arith)
take_front (suc n) (given ∷ front) more is = ap (λ xs. given ∷ xs) (take_front n front more (omega arith))

-- what was given up to a step is what the entries up to it give
outs_up_to : (rules : Rules) (H : History) (count : ℕ) (front : List Given) (entries : List Entry) (results : List (Result Answer Refusal)) (i : ℕ)
    → AreAnswers rules H entries results → count ≡ length front → i < length results
    → take (get_or (run_places rules H count entries results) i 0) (front ++ run_outs rules H entries results)
    ≡ front ++ run_outs rules H (take (suc i) entries) (take (suc i) results)
outs_up_to rules H count front entries [] i all is lt = absurd (omega arith)
outs_up_to rules H count front [] (result ∷ results) i all is lt = absurd all
outs_up_to rules H count front (entry ∷ entries) (result ∷ results) zero all is lt =
    let now = step_outs rules H entry result in
    let rest = run_outs rules (made H entry result) entries results in
    ap (take (count + length now)) (sym (append_assoc front now rest))
    ∙ take_front (count + length now) (front ++ now) rest (omega (arith, is, length-append front now))
    ∙ ap (λ xs. front ++ xs) (sym (append-nil now))
outs_up_to rules H count front (entry ∷ entries) (result ∷ results) (suc i) all is lt =
    let now = step_outs rules H entry result in
    let rest = run_outs rules (made H entry result) entries results in
    let place = get_or (run_places rules (made H entry result) (count + length now) entries results) i 0 in
    ap (take place) (sym (append_assoc front now rest))
    ∙ outs_up_to rules (made H entry result) (count + length now) (front ++ now) entries results i all.1 (omega (arith, is, length-append front now)) (omega arith)
    ∙ append_assoc front now (run_outs rules (made H entry result) (take (suc i) entries) (take (suc i) results))

results-length : (steps : List Step) → length (results_of steps) ≡ length steps
results-length [] = refl
results-length (step ∷ steps) = ap suc (results-length steps)

pub gives_each : (rules : Rules) (hub : HubState) (H : History) (entries : List Entry) (steps : List Step) (gave : List Given)
    → Ran rules hub H entries steps gave → GivesEach rules H entries steps gave
gives_each rules hub H entries steps gave ran i o lt =
    let results = results_of steps in
    let upto : take (get_or (places_of steps) i 0) gave ≡ run_outs rules H (take (i + 1) entries) (take (i + 1) results) =
    ap (λ xs. take (get_or xs i 0) gave) ran.places
    ∙ ap (take (get_or (run_places rules H 0 entries results) i 0)) ran.gives
    ∙ outs_up_to rules H 0 [] entries results i ran.answers refl (omega (arith, lt, results-length steps))
    ∙ ap (λ n. run_outs rules H (take n entries) (take n results)) (let one : suc i ≡ i + 1 = omega arith in one) in
    run_given rules H (take (i + 1) entries) (take (i + 1) results) o
    ∙ ap (λ gs. given_to rules H o ++ notes_for o gs) (sym upto)
