use Rattle.rx_history.proofs.Offers.{each_item_is_offered}
use Rattle.rx_history.proofs.laws.each_item_is_offered.Goals as goal

pub returns : goal.returns
returns c = each_item_is_offered
