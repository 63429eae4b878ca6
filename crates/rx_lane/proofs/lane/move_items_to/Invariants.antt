use Rattle.std.proofs.Common.{◌≡◌, ◌≤◌, ◌+◌, map, take, drop, ◌++◌, vec_len, vec_capacity}
use Rattle.rx_note.specs.declared.note.Note.TheVariants.{Next}
use Rattle.rx_lane.specs.Lanes.{addressed}
use Rattle.rx_lane.specs.Queues.{items_of, strategy_of, spare_of}
use Rattle.rx_lane.proofs.lane.move_items_to.Given as goal

abbrev pub invariant-loop : goal.invariant-loop
invariant-loop l = record {
  moved : l.outs.items ≡ l.fn.outs.items ++ addressed l.who (map Next (take l.counter (items_of l.fn.queue)));
  left : items_of l.queue ≡ drop l.counter (items_of l.fn.queue);
  strategy : strategy_of l.queue ≡ strategy_of l.fn.queue;
  spare : spare_of l.fn.queue ≤ spare_of l.queue;
  len : vec_len l.outs ≡ vec_len l.fn.outs + l.counter;
  capacity : vec_capacity l.outs ≡ vec_capacity l.fn.outs;
}
