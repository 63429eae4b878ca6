use Rattle.rx_history.proofs.Delivered.{error_goes_ahead}
use Rattle.rx_history.proofs.laws.error_goes_ahead.Goals as goal

pub returns : goal.returns
returns c = error_goes_ahead
