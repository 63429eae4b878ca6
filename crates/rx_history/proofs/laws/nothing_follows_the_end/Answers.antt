use Rattle.rx_history.proofs.Delivered.{nothing_follows_the_end}
use Rattle.rx_history.proofs.laws.nothing_follows_the_end.Goals as goal

pub returns : goal.returns
returns c = nothing_follows_the_end
