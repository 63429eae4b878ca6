use Rattle.std.proofs.Common.{◌≡◌, ◌≤◌, length, vec_capacity}
use Rattle.std.specs.List.{All}
use Rattle.rx_mailbox.specs.Parts.{IsEmpty}
use Rattle.rx_mailbox.proofs.settlement.deal_of_rows.parts_of.Given as goal

-- so many boxes have room for their parts
abbrev pub invariant-loop : goal.invariant-loop
invariant-loop g l = record {
  count : length l.parts.items ≡ l.counter;
  empty : All (IsEmpty l.senders) l.parts.items;
  room : l.boxes ≤ vec_capacity l.parts;
}
