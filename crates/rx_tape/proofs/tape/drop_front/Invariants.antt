use Rattle.std.proofs.Common.{◌≡◌, drop}
use Rattle.rx_tape.proofs.tape.drop_front.Given as goal

abbrev pub invariant-loop : goal.invariant-loop
invariant-loop l = l.items.items ≡ drop l.counter l.fn.items.items
