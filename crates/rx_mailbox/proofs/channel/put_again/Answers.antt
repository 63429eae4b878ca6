use Rattle.std.proofs.Common.{ap}
use Rattle.rx_mailbox.proofs.Steps.{may_put}
use Rattle.rx_mailbox.proofs.channel.put_again.Goals as goal

pub try_send_as-requires-clause-rule : goal.try_send_as-requires-clause-rule
try_send_as-requires-clause-rule g c = (may_put _ _ _ _ _ c.loop.invariant.port (ap (λ l. l.from) c.loop.invariant.letter), λ items views _ _. tt)
