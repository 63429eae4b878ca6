use Rattle.std.proofs.Common.{◌≡◌, map}
use Rattle.rx_note.specs.Signals.{Signals, Offered}
use Rattle.rx_history.specs.Histories.{followed_by}
use Rattle.rx_history.specs.Traces.{Traces}
use Rattle.rx_history.proofs.trace.Trace.follow.Given as goal

abbrev pub invariant-loop-item : goal.invariant-loop-item
invariant-loop-item l = record {
  traces : (s : Signals) → Traces l.initial.self s → Traces l.self (followed_by s (map Offered l.yielded));
  same_end : l.end ≡ l.fn.end;
}
