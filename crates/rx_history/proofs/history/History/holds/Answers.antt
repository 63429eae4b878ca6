-- Whether an observer is held follows from the roster after the entries.
use Rattle.std.proofs.Common.{rules}
use Rattle.rx_history.proofs.history.History.holds.Goals as goal

pub returns : goal.returns
returns c = search rules
