use Rattle.std.specs.Vec.Iter.{into_iter_items}
use Rattle.rx_mailbox.specs.Boxes.{AreOf}
use Rattle.test_threads.proofs.boxes.send_numbers.Given as goal

-- the ports that have ended are of the box, and so are those that are left
abbrev pub invariant-loop-port : goal.invariant-loop-port
invariant-loop-port g l = record {
  ended : AreOf l.inbox l.ended.items;
  left : AreOf l.inbox (into_iter_items l.port-iterator);
}
