-- What one step of a hub does, where the notes that it gives wait to be taken.
use Rattle.std.specs.Prelude.{◌≡◌, ◌≢◌, ◌+◌, ◌-◌, ◌^◌, min, List, Result, Err}
use Rattle.rx_note.specs.declared.given.Given.{Given}
use Rattle.rx_note.specs.declared.answer.Answer.{Answer}
use Rattle.rx_note.specs.declared.refusal.Refusal.{Refusal}
use Rattle.rx_note.specs.declared.refusal.Refusal.TheVariants.{Memory}
use Rattle.rx_history.specs.Histories.{History, Entry}
use Rattle.rx_hub.specs.Hubs.{HubView, StandsFor, Steps, MayMiss}

-- a step: the notes that wait to be taken grow by exactly what the definitions give for the history and the entry; where
-- memory was wanting nothing has changed but the count of such answers
pub record Told (old new : HubView) (before after : List Given) (result : Result Answer Refusal) (entry : Entry) : Type 0 where
  pub step : result ≢ Err Memory → (H : History) → StandsFor old.state H → Steps old.state new.state before after result H entry
  pub kept : result ≢ Err Memory → new.misses ≡ old.misses
  pub missed : result ≡ Err Memory → (new ≡ record { state = old.state; misses = min (old.misses + 1) (2 ^ 64 - 1) }) × (after ≡ before)
  pub accepted : result ≡ Err Memory → (H : History) → StandsFor old.state H → MayMiss old.state.rules H entry
  pub rules : new.state.rules ≡ old.state.rules
