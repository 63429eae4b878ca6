use Rattle.std.proofs.Common.{◌≡◌, ◌≤◌, List, vec_len, vec_capacity}
use Rattle.rx_mailbox.specs.Boxes.{Box}
use Rattle.rx_server.specs.Wirings.{AreOpened}
use Rattle.rx_server.proofs.wired.opened.open_all.Given as goal

-- so many were opened, and there is room for the others
abbrev pub invariant-loop : goal.invariant-loop
invariant-loop g l = record {
  opened : (boxes : List (Box _)) × AreOpened l.counter l.fn.capacity l.fn.senders boxes l.opening.inboxes.items l.opening.rows.items;
  inboxes : vec_len l.opening.inboxes ≡ l.counter;
  rows : vec_len l.opening.rows ≡ l.counter;
  room : (l.fn.count ≤ vec_capacity l.opening.inboxes) × (l.fn.count ≤ vec_capacity l.opening.rows);
}
