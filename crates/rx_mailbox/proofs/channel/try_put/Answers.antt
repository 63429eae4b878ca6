use Rattle.std.proofs.Common.{refl}
use Rattle.rx_mailbox.proofs.Steps.{may_put}
use Rattle.rx_mailbox.proofs.channel.try_put.Goals as goal

pub try_send_as-requires-clause-rule : goal.try_send_as-requires-clause-rule
try_send_as-requires-clause-rule g c = (may_put _ _ _ _ _ c.requires.port refl, λ items views _ _. tt)
