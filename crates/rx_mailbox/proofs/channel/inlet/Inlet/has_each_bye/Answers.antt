-- Every Bye was received where each port is marked.
use Rattle.std.proofs.Common.{rules}
use Rattle.rx_mailbox.proofs.channel.inlet.Inlet.has_each_bye.Goals as goal

pub returns : goal.returns
returns g c = search rules
