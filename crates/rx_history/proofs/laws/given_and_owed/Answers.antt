use Rattle.rx_history.proofs.Delivered.{given_and_owed}
use Rattle.rx_history.proofs.laws.given_and_owed.Goals as goal

pub returns : goal.returns
returns c = given_and_owed
