use Rattle.std.proofs.Common.{◌≡◌, take}
use Rattle.rx_tape.specs.Tapes.{lowest}
use Rattle.rx_tape.proofs.places.lowest_in.Given as goal

abbrev pub invariant-loop-number : goal.invariant-loop-number
invariant-loop-number l = l.low ≡ lowest (take l.number l.fn.slots.items) l.fn.bound
