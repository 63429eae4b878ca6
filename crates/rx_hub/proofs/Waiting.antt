-- How many notes wait for an observer.
use Rattle.std.proofs.Common.{◌≡◌, ℕ, ◌<◌, ◌==◌, false, cond, length, get_or, [], None, Some, position, Result, Ok, Err, sym, ap, ◌∙◌}
use Rattle.std.specs.Option.{option_map_or}
use Rattle.std.specs.List.{list_any}
use Rattle.rx_note.specs.Signals.{Signals, waiting}
use Rattle.rx_history.specs.Histories.{History, is_held, signals, waiting_for}
use Rattle.rx_hub.specs.declared.no_observer.NoObserver.{NoObserver}
use Rattle.rx_lane.specs.Lanes as lanes
use Rattle.rx_hub.specs.Subscriptions.{Observer}
use Rattle.rx_hub.specs.Hubs.{HubState, StandsFor}
use Rattle.rx_hub.specs.Counts.{waiting_count}
use Rattle.rx_hub.proofs.Asking.{absent, held_at}
use Rattle.rx_hub.proofs.Tables.{AllStand-at}

-- nothing is counted where no place has the number
pub count_absent : (hub : HubState) (H : History) (who : ℕ)
    → position (λ (o : Observer). o.who == who) hub.observers ≡ None → StandsFor hub H → Err (record {}) ≡ waiting_count hub.rules H who
count_absent hub H who none stands =
    let unheld : is_held hub.rules H who ≡ false = ap (list_any (λ k. k == who)) (sym stands.held_are) ∙ absent who hub.observers none in
    let Told : Result ℕ NoObserver = Err (record {}) in
    sym (ap (λ b. cond b (Ok (length (waiting_for hub.rules H who))) Told) unheld)

-- the count at a place
pub count_at : (hub : HubState) (H : History) (who k n : ℕ) (d : Observer)
    → k < length hub.observers → (get_or hub.observers k d).who ≡ who
    → ((s : Signals) → lanes.StandsFor (get_or hub.observers k d).lane s → n ≡ length (waiting s)) → StandsFor hub H → Ok n ≡ waiting_count hub.rules H who
count_at hub H who k n d lt named counted stands =
    let held_now = held_at hub H who k d stands lt named in
    let mine = AllStand-at (signals hub.rules H) hub.observers k d lt stands.lanes_stand in
    let made : signals hub.rules H who ≡ Some mine.these = ap (signals hub.rules H) (sym named) ∙ mine.are in
    let waits : n ≡ length (waiting mine.these) = counted mine.these mine.stand in
    let found : waiting_for hub.rules H who ≡ waiting mine.these =
    ap (λ b. cond b (option_map_or waiting (signals hub.rules H who) []) []) held_now ∙ ap (λ t. option_map_or waiting t []) made in
    let Told : Result ℕ NoObserver = Err (record {}) in
    ap Ok (waits ∙ ap length (sym found)) ∙ sym (ap (λ b. cond b (Ok (length (waiting_for hub.rules H who))) Told) held_now)
