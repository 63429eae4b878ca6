use Rattle.std.proofs.Common.{◌≡◌, ◌++◌, map, take, vec_capacity}
use Rattle.rx_note.specs.declared.note.Note.TheVariants.{Next}
use Rattle.rx_tape.specs.Tapes.{with_fewer}
use Rattle.rx_lane.specs.Lanes.{addressed}
use Rattle.rx_lane.proofs.waiting.move_first.Given as goal

abbrev pub invariant-loop : goal.invariant-loop
invariant-loop l = record {
  put : l.outs.items ≡ l.fn.outs.items ++ addressed l.who (map Next (take l.counter l.fn.tape.items));
  left : l.tape ≡ with_fewer l.fn.tape l.counter;
  capacity : vec_capacity l.outs ≡ vec_capacity l.fn.outs;
}
