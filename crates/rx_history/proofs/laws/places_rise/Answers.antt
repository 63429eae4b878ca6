use Rattle.rx_history.proofs.Placing.{places_rise}
use Rattle.rx_history.proofs.laws.places_rise.Goals as goal

pub returns : goal.returns
returns c = places_rise
