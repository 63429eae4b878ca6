use Rattle.std.proofs.Common.{◌≡◌}
use Rattle.rx_mailbox.specs.Boxes.{all_told}
use Rattle.rx_pump.proofs.pump.next_letter.receive_beside.Given as goal

-- no letter was taken yet, and the ports are as they were
abbrev pub invariant-loop : goal.invariant-loop
invariant-loop g l = (l.inbox ≡ l.initial.inbox) × (all_told l.replies.items ≡ all_told l.initial.replies.items)
