-- A policy is made where the room of its strategy is in its limits.
use Rattle.std.proofs.Common.{rules}
use Rattle.rx_note.proofs.policy.Policy.new.Goals as goal

pub invariant_of-result : goal.invariant_of-result
invariant_of-result c = search rules

pub returns-then-is_in_limits : goal.returns-then-is_in_limits
returns-then-is_in_limits c = search rules
