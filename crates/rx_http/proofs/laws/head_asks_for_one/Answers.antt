use Rattle.rx_http.proofs.Single.{asks-one}
use Rattle.rx_http.proofs.laws.head_asks_for_one.Goals as goal

pub returns : goal.returns
returns c = asks-one
