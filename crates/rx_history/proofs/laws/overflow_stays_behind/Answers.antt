use Rattle.rx_history.proofs.Delivered.{overflow_stays_behind}
use Rattle.rx_history.proofs.laws.overflow_stays_behind.Goals as goal

pub returns : goal.returns
returns c = overflow_stays_behind
