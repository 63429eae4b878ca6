use Rattle.rx_history.proofs.Delivered.{given_within_requests}
use Rattle.rx_history.proofs.laws.given_within_requests.Goals as goal

pub returns : goal.returns
returns c = given_within_requests
