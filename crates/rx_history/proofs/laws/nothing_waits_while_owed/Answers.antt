use Rattle.rx_history.proofs.Delivered.{nothing_waits_while_owed}
use Rattle.rx_history.proofs.laws.nothing_waits_while_owed.Goals as goal

pub returns : goal.returns
returns c = nothing_waits_while_owed
