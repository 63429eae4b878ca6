use Rattle.rx_events.proofs.Accounts.{stream_is_account}
use Rattle.rx_events.proofs.laws.stream_is_account.Goals as goal

pub returns : goal.returns
returns c = stream_is_account
