use Rattle.rx_history.proofs.Delivered.{terminal_is_last}
use Rattle.rx_history.proofs.laws.terminal_is_last.Goals as goal

pub returns : goal.returns
returns c = terminal_is_last
