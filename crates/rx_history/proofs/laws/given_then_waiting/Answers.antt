use Rattle.rx_history.proofs.Delivered.{given_then_waiting}
use Rattle.rx_history.proofs.laws.given_then_waiting.Goals as goal

pub returns : goal.returns
returns c = given_then_waiting
