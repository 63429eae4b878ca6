use Rattle.rx_history.proofs.Placing.{places_are_counted}
use Rattle.rx_history.proofs.laws.places_are_counted.Goals as goal

pub returns : goal.returns
returns c = places_are_counted
