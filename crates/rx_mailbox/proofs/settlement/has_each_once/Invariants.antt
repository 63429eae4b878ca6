use Rattle.std.proofs.Common.{◌≡◌, ◌==◌, ◌<◌, ℕ}
use Rattle.std.specs.List.{count_by}
use Rattle.rx_mailbox.proofs.settlement.has_each_once.Given as goal

-- each number so far is that of one port
abbrev pub invariant-loop-number : goal.invariant-loop-number
invariant-loop-number g l = (number : ℕ) → number < l.number → count_by (λ port. port.number == number) l.ports ≡ 1
