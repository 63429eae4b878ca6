use Rattle.rx_history.proofs.Gaining.{outs_are_given}
use Rattle.rx_history.proofs.laws.outs_are_given.Goals as goal

pub returns : goal.returns
returns c = outs_are_given
