use Rattle.rx_history.proofs.Delivered.{given_only_grows}
use Rattle.rx_history.proofs.laws.given_only_grows.Goals as goal

pub returns : goal.returns
returns c = given_only_grows
