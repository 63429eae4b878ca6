use Rattle.rx_http.proofs.Accounting.{heard_is_known, id_is_account}
use Rattle.rx_http.proofs.laws.id_is_account.Goals as goal

pub returns : goal.returns
returns c = record { account = id_is_account; heard = heard_is_known }
