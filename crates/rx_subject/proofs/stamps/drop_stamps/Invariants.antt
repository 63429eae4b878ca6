use Rattle.std.proofs.Common.{◌≡◌, drop}
use Rattle.rx_subject.proofs.stamps.drop_stamps.Given as goal

abbrev pub invariant-loop : goal.invariant-loop
invariant-loop l = l.stamps.items ≡ drop l.counter l.fn.stamps.items
