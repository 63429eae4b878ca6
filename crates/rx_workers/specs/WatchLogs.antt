-- What a readiness was asked to watch (this project's own rule).
use Rattle.std.specs.Prelude.{ℕ, ◌==◌, if◌then◌else◌, List, [], ◌∷◌, Option, None}
use Rattle.rx_workers.specs.declared.watch_log.WatchLog.{WatchLog}
use Rattle.rx_workers.specs.declared.readiness.Aim.{Aim}

-- what a key is watched for behind these calls, by the last one of this key; before them it was for this
abbrev pub asked_last : List (ℕ × Option Aim) → ℕ → Option Aim → Option Aim
asked_last [] key was = was
asked_last (call ∷ calls) key was = asked_last calls key (if call.0 == key then call.1 else was)

-- for what each key is watched, by the calls since nothing was
abbrev pub watched_by : WatchLog → ℕ → Option Aim
watched_by log key = asked_last log.calls.items key None
