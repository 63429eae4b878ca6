use Rattle.rx_mailbox.proofs.Steps.{may_show, may_take}
use Rattle.rx_mailbox.proofs.channel.take.Goals as goal

pub try_recv_as-requires-clause-rule : goal.try_recv_as-requires-clause-rule
try_recv_as-requires-clause-rule g c = (may_take _ _ c.requires.reader, may_show _ _ c.requires.reader)
