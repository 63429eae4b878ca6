use Rattle.rx_history.proofs.Delivered.{overflow_ends_it}
use Rattle.rx_history.proofs.laws.overflow_ends_it.Goals as goal

pub returns : goal.returns
returns c = overflow_ends_it
