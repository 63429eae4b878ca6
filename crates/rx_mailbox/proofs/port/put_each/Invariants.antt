use Rattle.std.proofs.Common.{◌≡◌, length}
use Rattle.rx_mailbox.specs.Boxes.{with_bodies}
use Rattle.rx_mailbox.proofs.port.put_each.Given as goal

-- what was put and what is still held back is as it was
abbrev pub invariant-loop-body : goal.invariant-loop-body
invariant-loop-body g l = with_bodies l.outlet l.held.items ≡ with_bodies l.initial.outlet l.initial.held.items

abbrev pub decreases-loop-body : goal.decreases-loop-body
decreases-loop-body g l = length l.held.items
