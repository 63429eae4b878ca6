use Rattle.rx_history.proofs.Delivered.{nothing_follows_a_dispose}
use Rattle.rx_history.proofs.laws.nothing_follows_a_dispose.Goals as goal

pub returns : goal.returns
returns c = nothing_follows_a_dispose
