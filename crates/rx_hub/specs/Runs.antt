-- A whole run: several events taken one after another, from a history on. A step refused for want of memory is not in
-- the history that follows, and the run goes on.
--
-- A whole run: for every history that the hub stands for, each event of a run is answered as the definitions say or, where
-- they accept it, `Memory`, which leaves it out of the history; what is given is what these entries give, in their order, and
-- each step's place tells how much of it was given up to that step; up to each step, what each observer was given is what its
-- given gained since the run began; the hub then stands for the history of the events that were not answered `Memory`. Where
-- the list of steps can't be had, the run is `Memory` and nothing has changed.
use Rattle.std.specs.Prelude.{◌≡◌, ◌⊎◌, ℕ, ◌+◌, ◌<◌, ◌-◌, ◌^◌, min, List, [], ◌∷◌, ◌++◌, length, map, replicate, take, get_or, Result, Err, if◌then◌else◌}
use Rattle.rx_note.specs.declared.given.Given.{Given}
use Rattle.rx_note.specs.declared.rules.Rules.{Rules}
use Rattle.rx_note.specs.declared.answer.Answer.{Answer}
use Rattle.rx_note.specs.declared.event.Event.TheVariants.{Request}
use Rattle.rx_note.specs.declared.refusal.Refusal.{Refusal}
use Rattle.rx_note.specs.declared.refusal.Refusal.TheVariants.{Memory}
use Rattle.rx_history.specs.Histories.{History, ◌▹◌, Entry, given_to, answer, outs}
use Rattle.rx_history.specs.Delivery.{notes_for}
use Rattle.rx_hub.specs.declared.step.Step.{Step}
use Rattle.rx_hub.specs.Hubs.{HubState, HubView, StandsFor, MayMiss, is_miss}

-- ONE STEP

-- the history after an entry of this result
abbrev pub made : History → Entry → Result Answer Refusal → History
made H entry result = if is_miss result then H else H ▹ entry

-- what an entry of this result gives
abbrev pub step_outs : Rules → History → Entry → Result Answer Refusal → List Given
step_outs rules H entry result = if is_miss result then [] else outs rules H entry

-- the count of the Memory answers after this result; it stays at its greatest value
abbrev pub misses_with : ℕ → Result Answer Refusal → ℕ
misses_with misses result = if is_miss result then min (misses + 1) (2 ^ 64 - 1) else misses

-- the result is the answer of the definitions or, where they accept the event and it takes memory, Memory
abbrev pub IsAnswer : Rules → History → Entry → Result Answer Refusal → Type 0
IsAnswer rules H entry result = (result ≡ answer rules H entry.1) ⊎ ((result ≡ Err Memory) × MayMiss rules H entry)

-- SEVERAL STEPS

-- the history after several entries of these results
abbrev pub after_run : History → List Entry → List (Result Answer Refusal) → History
after_run H [] results = H
after_run H (entry ∷ entries) [] = H
after_run H (entry ∷ entries) (result ∷ results) = after_run (made H entry result) entries results

-- all that they give
abbrev pub run_outs : Rules → History → List Entry → List (Result Answer Refusal) → List Given
run_outs rules H [] results = []
run_outs rules H (entry ∷ entries) [] = []
run_outs rules H (entry ∷ entries) (result ∷ results) = step_outs rules H entry result ++ run_outs rules (made H entry result) entries results

-- how many are given up to each of them, where so many were given before
abbrev pub run_places : Rules → History → ℕ → List Entry → List (Result Answer Refusal) → List ℕ
run_places rules H count [] results = []
run_places rules H count (entry ∷ entries) [] = []
run_places rules H count (entry ∷ entries) (result ∷ results) =
    (count + length (step_outs rules H entry result))
    ∷ run_places rules (made H entry result) (count + length (step_outs rules H entry result)) entries results

-- there is one result for each entry, and each is an answer
abbrev pub AreAnswers : Rules → History → List Entry → List (Result Answer Refusal) → Type 0
AreAnswers rules H [] [] = Unit {0}
AreAnswers rules H [] (result ∷ results) = ⊥
AreAnswers rules H (entry ∷ entries) [] = ⊥
AreAnswers rules H (entry ∷ entries) (result ∷ results) = IsAnswer rules H entry result × AreAnswers rules (made H entry result) entries results

-- the count of the Memory answers after several results
abbrev pub misses_after : ℕ → List (Result Answer Refusal) → ℕ
misses_after misses [] = misses
misses_after misses (result ∷ results) = misses_after (misses_with misses result) results

-- how many of several results are Memory
abbrev pub missed_in : List (Result Answer Refusal) → ℕ
missed_in [] = 0
missed_in (result ∷ results) = (if is_miss result then 1 else 0) + missed_in results

-- several entries were taken one behind another from H on: each was answered so and gave what the definitions say, and the hub stands
-- for the history that they leave
pub record TakesEach (rules : Rules) (hub : HubState) (H : History) (entries : List Entry) (results : List (Result Answer Refusal)) (before after : List Given) : Type 0 where
  pub answers : AreAnswers rules H entries results
  pub gives : after ≡ before ++ run_outs rules H entries results
  pub goes_on : StandsFor hub (after_run H entries results)

-- so many requests for one item each for an observer were taken, one behind another, and of them so many refused for want of memory
pub record RequestsEach (old new : HubView) (port who n : ℕ) (before after : List Given) (missed : ℕ) : Type 0 where
  pub results : List (Result Answer Refusal)
  pub count : length results ≡ n
  pub each : (H : History) → StandsFor old.state H → TakesEach old.state.rules new.state H (replicate n (port, Request who 1)) results before after
  pub misses : new.misses ≡ misses_after old.misses results
  pub missed_are : missed ≡ missed_in results

-- A RUN

-- the results of several steps
abbrev pub results_of : List Step → List (Result Answer Refusal)
results_of steps = map (λ step. step.result) steps

-- the places of several steps in what was given
abbrev pub places_of : List Step → List ℕ
places_of steps = map (λ step. step.outs_to) steps

-- a run of these entries from H on: each was answered and gave what the definitions say, and the hub stands for the
-- history that they leave
pub record Ran (rules : Rules) (hub : HubState) (H : History) (entries : List Entry) (steps : List Step) (gave : List Given) : Type 0 where
  pub answers : AreAnswers rules H entries (results_of steps)
  pub gives : gave ≡ run_outs rules H entries (results_of steps)
  pub places : places_of steps ≡ run_places rules H 0 entries (results_of steps)
  pub goes_on : StandsFor hub (after_run H entries (results_of steps))

-- what each observer was given, from the run's beginning up to each step, is what its given gained
abbrev pub GivesEach : Rules → History → List Entry → List Step → List Given → Type 0
GivesEach rules H entries steps gave =
    (i o : ℕ) → i < length steps
    → given_to rules (after_run H (take (i + 1) entries) (take (i + 1) (results_of steps))) o
    ≡ given_to rules H o ++ notes_for o (take (get_or (places_of steps) i 0) gave)
