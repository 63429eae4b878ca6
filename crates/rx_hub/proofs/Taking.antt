-- What a call that takes an entry did, by its answer.
use Rattle.std.proofs.Common.{◌≡◌, ◌≢◌, ℕ, Bool, true, false, List, Result, Ok, Err, MatchBool, refl, sym, ap, subst}
use Rattle.rx_note.specs.declared.given.Given.{Given}
use Rattle.rx_note.specs.declared.event.Event.{Event}
use Rattle.rx_note.specs.declared.answer.Answer.{Answer}
use Rattle.rx_note.specs.declared.refusal.Refusal.{Refusal}
use Rattle.rx_note.specs.declared.refusal.Refusal.TheVariants.{Ended, Full, Spent, ZeroRequest, NoObserver, TooMuch, Memory}
use Rattle.rx_history.specs.Histories.{History, Entry, answer}
use Rattle.rx_hub.specs.Hubs.{HubState, StandsFor, Steps, Misses, Takes, is_miss}

-- an answer other than Memory is no miss
pub no_miss : (result : Result Answer Refusal) → result ≢ Err Memory → is_miss result ≡ false
no_miss (Ok answer) other = refl
no_miss (Err Ended) other = refl
no_miss (Err Full) other = refl
no_miss (Err Spent) other = refl
no_miss (Err ZeroRequest) other = refl
no_miss (Err NoObserver) other = refl
no_miss (Err TooMuch) other = refl
no_miss (Err Memory) other = absurd (other refl)

chosen_true : (b : Bool) (P Q : Type 0) → b ≡ true → MatchBool b P Q → P
chosen_true true P Q e m = m
chosen_true false P Q e m = cc

chosen_false : (b : Bool) (P Q : Type 0) → b ≡ false → MatchBool b P Q → Q
chosen_false true P Q e m = cc
chosen_false false P Q e m = m

-- then a step was made
pub took_step : (old new : HubState) (before after : List Given) (result : Result Answer Refusal) (entry : Entry)
    → Takes old new before after result entry → result ≢ Err Memory → (H : History) → StandsFor old H → Steps old new before after result H entry
took_step old new before after result entry takes other =
    chosen_false (is_miss result) (Misses old new before after entry) ((H : History) → StandsFor old H → Steps old new before after result H entry)
    (no_miss result other) takes.took

-- a Memory answer made none
pub took_none : (old new : HubState) (before after : List Given) (result : Result Answer Refusal) (entry : Entry)
    → Takes old new before after result entry → result ≡ Err Memory → Misses old new before after entry
took_none old new before after result entry takes missed =
    chosen_true (is_miss result) (Misses old new before after entry) ((H : History) → StandsFor old H → Steps old new before after result H entry)
    (ap is_miss missed) takes.took

-- an entry by another name
pub takes_as : (old new : HubState) (before after : List Given) (result : Result Answer Refusal) (port : ℕ) (event as_event : Event)
    → event ≡ as_event → Takes old new before after result (port, as_event) → Takes old new before after result (port, event)
takes_as old new before after result port event as_event is takes =
    subst (λ (e : Event). Takes old new before after result (port, e)) (sym is) takes
