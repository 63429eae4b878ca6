use Rattle.rx_history.proofs.Delivered.{dispose_discards}
use Rattle.rx_history.proofs.laws.dispose_discards.Goals as goal

pub returns : goal.returns
returns c = dispose_discards
