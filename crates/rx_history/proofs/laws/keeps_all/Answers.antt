use Rattle.rx_history.proofs.Delivered.{keeps_all}
use Rattle.rx_history.proofs.laws.keeps_all.Goals as goal

pub returns : goal.returns
returns c = keeps_all
