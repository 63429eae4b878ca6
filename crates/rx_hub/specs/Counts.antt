-- How many notes wait for an observer.
use Rattle.std.specs.Prelude.{ℕ, length, Result, Ok, Err, if◌then◌else◌}
use Rattle.rx_note.specs.declared.rules.Rules.{Rules}
use Rattle.rx_history.specs.Histories.{History, is_held, waiting_for}
use Rattle.rx_hub.specs.declared.no_observer.NoObserver.{NoObserver}

-- the notes that wait, the terminal included, where the observer is held
abbrev pub waiting_count : Rules → History → ℕ → Result ℕ NoObserver
waiting_count rules H who = if is_held rules H who then Ok (length (waiting_for rules H who)) else Err (record {})
