use Rattle.rx_history.proofs.Offers.{async_offers_the_last}
use Rattle.rx_history.proofs.laws.async_offers_the_last.Goals as goal

pub returns : goal.returns
returns c = async_offers_the_last
