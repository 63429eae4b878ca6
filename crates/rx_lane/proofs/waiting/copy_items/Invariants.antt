use Rattle.std.proofs.Common.{◌≡◌, ◌++◌, map, take, vec_capacity}
use Rattle.rx_note.specs.declared.note.Note.TheVariants.{Next}
use Rattle.rx_tape.specs.Tapes.{last_items}
use Rattle.rx_lane.specs.Lanes.{addressed}
use Rattle.rx_lane.proofs.waiting.copy_items.Given as goal

abbrev pub invariant-loop-place : goal.invariant-loop-place
invariant-loop-place l = record {
  put : l.outs.items ≡ l.fn.outs.items ++ addressed l.who (map Next (take l.place (last_items l.fn.tape.items l.fn.back)));
  capacity : vec_capacity l.outs ≡ vec_capacity l.fn.outs;
}
