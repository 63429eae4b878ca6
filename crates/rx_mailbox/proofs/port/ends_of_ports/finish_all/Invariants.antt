use Rattle.std.proofs.Common.{◌≡◌, ◌+◌, ◌≤◌, vec_len, vec_capacity, reverse}
use Rattle.rx_mailbox.proofs.Ending.{Ended}
use Rattle.rx_mailbox.proofs.port.ends_of_ports.finish_all.Given as goal

-- the ports before those that are left have ended, and there is room for the rest
abbrev pub invariant-loop-port : goal.invariant-loop-port
invariant-loop-port g l = record {
  room : vec_len l.ended + vec_len l.ports ≤ vec_capacity l.ended;
  capacity : vec_capacity l.ended ≡ vec_capacity l.initial.ended;
  ended : Ended (reverse l.initial.ports.items) l.ports.items l.initial.ended.items l.ended.items;
}

abbrev pub decreases-loop-port : goal.decreases-loop-port
decreases-loop-port g l = vec_len l.ports
