use Rattle.rx_history.proofs.Delivered.{kept_is_all}
use Rattle.rx_history.proofs.laws.kept_is_all.Goals as goal

pub returns : goal.returns
returns c = kept_is_all
