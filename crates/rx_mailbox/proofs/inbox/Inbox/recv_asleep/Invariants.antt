use Rattle.std.proofs.Common.{◌≡◌}
use Rattle.rx_mailbox.proofs.inbox.Inbox.recv_asleep.Given as goal

-- no letter was taken yet
abbrev pub invariant-loop : goal.invariant-loop
invariant-loop g l = l.self ≡ l.initial.self
