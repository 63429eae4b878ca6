use Rattle.std.proofs.Common.{◌≡◌, take}
use Rattle.rx_history.specs.Stored.{history_of}
use Rattle.rx_history.specs.Walks.{Agrees}
use Rattle.rx_history.proofs.walk.trace_of.Given as goal

abbrev pub invariant-loop-entry : goal.invariant-loop-entry
invariant-loop-entry l = record {
  agrees : Agrees l.rules l.walk (history_of (take l.entry-index l.entries));
  same_who : l.walk.who ≡ l.who;
}
