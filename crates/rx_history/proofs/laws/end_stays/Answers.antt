use Rattle.rx_history.proofs.Delivered.{end_stays}
use Rattle.rx_history.proofs.laws.end_stays.Goals as goal

pub returns : goal.returns
returns c = end_stays
