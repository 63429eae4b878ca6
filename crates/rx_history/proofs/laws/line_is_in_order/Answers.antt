use Rattle.rx_history.proofs.Delivered.{line_in_order}
use Rattle.rx_history.proofs.laws.line_is_in_order.Goals as goal

pub returns : goal.returns
returns c = line_in_order
