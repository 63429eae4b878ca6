-- A port's number is below the number of ports that were made.
use Rattle.std.proofs.Common.{rules}
use Rattle.rx_mailbox.proofs.settlement.are_below.Goals as goal

pub returns : goal.returns
returns g c = search rules
