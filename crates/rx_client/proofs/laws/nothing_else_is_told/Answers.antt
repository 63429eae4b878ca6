use Rattle.rx_client.proofs.Among.{run-among}
use Rattle.rx_client.proofs.laws.nothing_else_is_told.Goals as goal

pub returns : goal.returns
returns c = run-among
