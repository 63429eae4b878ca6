use Rattle.std.proofs.Common.{◌≡◌, ◌++◌, take, option_to_list}
use Rattle.rx_tape.specs.Tapes.{last_items}
use Rattle.rx_hub.proofs.seat.last_copies.Given as goal

abbrev pub invariant-loop-place : goal.invariant-loop-place
invariant-loop-place l = l.items.items ≡ option_to_list l.fn.lead ++ take l.place (last_items l.fn.tape.items l.fn.back)
