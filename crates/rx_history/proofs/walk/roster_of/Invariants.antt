use Rattle.std.proofs.Common.{◌≡◌, take}
use Rattle.rx_history.specs.Histories.{roster_of}
use Rattle.rx_history.specs.Stored.{history_of}
use Rattle.rx_history.proofs.walk.roster_of.Given as goal

abbrev pub invariant-loop-entry : goal.invariant-loop-entry
invariant-loop-entry l = l.roster ≡ roster_of l.rules.limits (history_of (take l.entry-index l.entries))
