use Rattle.std.proofs.Common.{◌≡◌, ◌++◌, ◌+◌, ◌≤◌, length, vec_capacity}
use Rattle.std.specs.List.{AllZip}
use Rattle.std.specs.Vec.Iter.{into_iter_items}
use Rattle.rx_mailbox.specs.Parts.{Settles}
use Rattle.rx_mailbox.proofs.settlement.each_box.settle_each.Given as goal

-- the first have settled, and there is room for the others
abbrev pub invariant-loop-parts : goal.invariant-loop-parts
invariant-loop-parts g l = record {
  parts : l.yielded ++ into_iter_items l.parts-iterator ≡ l.fn.boxes.items;
  settled : AllZip Settles l.yielded l.settled.items;
  room : length l.settled.items + length (into_iter_items l.parts-iterator) ≤ vec_capacity l.settled;
}
