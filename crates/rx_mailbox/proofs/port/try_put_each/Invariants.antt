use Rattle.std.proofs.Common.{◌≡◌, length}
use Rattle.rx_mailbox.specs.Boxes.{with_bodies}
use Rattle.rx_mailbox.proofs.port.try_put_each.Given as goal

-- what was put and what is still held back is as it was
abbrev pub invariant-loop-body : goal.invariant-loop-body
invariant-loop-body g l = with_bodies l.held.items l.outlet ≡ with_bodies l.initial.held.items l.initial.outlet

abbrev pub decreases-loop-body : goal.decreases-loop-body
decreases-loop-body g l = length l.held.items
