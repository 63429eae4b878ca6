-- What a walk over stored events has found out, and the history that it agrees with.
use Rattle.std.specs.Prelude.{◌≡◌}
use Rattle.rx_note.specs.declared.rules.Rules.{Rules}
use Rattle.rx_history.specs.Histories.{History, Entry, ◌▹◌, roster_of, signals}
use Rattle.rx_history.specs.Pasts.{Remembers}
use Rattle.rx_history.specs.Traces.{MayTrace}
use Rattle.rx_history.specs.declared.walk.Walk.{Walk}

-- the walk has the observers and the past of the history, and the trace of its observer
pub record Agrees (rules : Rules) (walk : Walk) (H : History) : Type 0 where
  pub has_roster : walk.roster ≡ roster_of rules.limits H
  pub has_past : Remembers rules walk.past H
  pub has_trace : MayTrace walk.trace (signals rules H walk.who)

-- where the walk agreed with a history, it agrees with the history that has this entry more
abbrev pub Passes : Rules → Walk → Walk → Entry → Type 0
Passes rules old new entry = (H : History) → Agrees rules old H → Agrees rules new (H ▹ entry)
