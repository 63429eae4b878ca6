use Rattle.std.proofs.Common.{◌≡◌, ◌++◌, length}
use Rattle.std.specs.Vec.Iter.{into_iter_items}
use Rattle.rx_mailbox.specs.Parts.{dealt}
use Rattle.rx_mailbox.proofs.settlement.deal_of_rows.deal.Given as goal

-- the first ports were dealt
abbrev pub invariant-loop-port : goal.invariant-loop-port
invariant-loop-port g l = record {
  ports : l.yielded ++ into_iter_items l.port-iterator ≡ l.fn.ports.items;
  boxes : l.boxes.items ≡ dealt l.yielded l.initial.boxes.items;
  place : l.place ≡ length l.yielded;
}
