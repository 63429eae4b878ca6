use Rattle.rx_history.proofs.Delivered.{each_port_in_order}
use Rattle.rx_history.proofs.laws.each_port_is_in_order.Goals as goal

pub returns : goal.returns
returns c = each_port_in_order
