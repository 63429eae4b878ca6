-- What the events so far mean for one observer, as a walk over them keeps it.
use Rattle.std.specs.Prelude.{◌≡◌, ℕ, length, take, Option, None, Some}
use Rattle.rx_note.specs.Signals.{Signals, policy_of, demand, terminal_of, line_items, owed}
use Rattle.rx_note.specs.declared.rules.Rules.{Rules}
use Rattle.rx_history.specs.Histories.{History, signals}
use Rattle.rx_history.specs.declared.trace.Trace.{Trace}

-- the trace has the policy of these signals, their line, how many of its items were given, and how many more are owed
pub record Traces (trace : Trace) (s : Signals) : Type 0 where
  pub has_strategy : trace.strategy ≡ (policy_of s).strategy
  pub has_errors : trace.errors ≡ (policy_of s).errors
  pub has_items : trace.items.items ≡ line_items s
  pub has_given : trace.given ≡ length (take (demand s) (line_items s))
  pub has_owed : trace.owed ≡ owed s
  pub has_end : trace.end ≡ terminal_of s

-- there is a trace exactly where there are signals, and it is theirs
abbrev pub MayTrace : Option Trace → Option Signals → Type 0
MayTrace None None = Unit {0}
MayTrace None (Some s) = ⊥
MayTrace (Some trace) None = ⊥
MayTrace (Some trace) (Some s) = Traces trace s

-- there are signals of the observer, and the trace is theirs
pub record TracesObserver (rules : Rules) (H : History) (o : ℕ) (trace : Trace) : Type 0 where
  pub these : Signals
  pub are : signals rules H o ≡ Some these
  pub traces : Traces trace these
