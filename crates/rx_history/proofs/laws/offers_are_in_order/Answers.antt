use Rattle.rx_history.proofs.Delivered.{offers_are_in_order}
use Rattle.rx_history.proofs.laws.offers_are_in_order.Goals as goal

pub returns : goal.returns
returns c = offers_are_in_order
