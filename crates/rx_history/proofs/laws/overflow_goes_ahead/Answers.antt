use Rattle.rx_history.proofs.Delivered.{overflow_goes_ahead}
use Rattle.rx_history.proofs.laws.overflow_goes_ahead.Goals as goal

pub returns : goal.returns
returns c = overflow_goes_ahead
