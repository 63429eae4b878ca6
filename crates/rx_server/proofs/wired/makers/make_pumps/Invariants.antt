use Rattle.std.proofs.Common.{◌≡◌, ◌+◌, ◌≤◌, [], length, vec_len, vec_capacity}
use Rattle.std.specs.List.{All, zip}
use Rattle.std.specs.Vec.Iter.{into_iter_items}
use Rattle.rx_history.specs.Histories.{NoEvents}
use Rattle.rx_hub.specs.Hubs.{StandsFor}
use Rattle.rx_pump.specs.Pumps.{fresh_pump}
use Rattle.rx_server.specs.Wirings.{row_ports}
use Rattle.rx_server.proofs.Rows.{Handed, Made}
use Rattle.rx_server.proofs.wired.makers.make_pumps.Given as goal

-- the first hubs and inboxes have their pumps, and each drainer and each reply box has a port for each of the others
abbrev pub invariant-loop-inbox : goal.invariant-loop-inbox
invariant-loop-inbox g l = record {
  made : Made (λ x. fresh_pump x.1.0 x.1.1 (row_ports x.0 l.initial.drainers.items) (row_ports x.0 l.initial.replies.items)) (zip (into_iter_items l.initial.hubs) (into_iter_items l.initial.inboxes)) l.pumps.items
      (zip (into_iter_items l.hubs) (into_iter_items l.inboxes));
  drainers : Handed l.initial.drainers.items l.drainers.items l.pumps.items (into_iter_items l.inboxes);
  replies : Handed l.initial.replies.items l.replies.items l.pumps.items (into_iter_items l.inboxes);
  hubs : All (λ hub. StandsFor hub.state NoEvents) (into_iter_items l.hubs);
  fresh : All (λ inbox. (inbox.received ≡ []) × (length l.initial.replies.items ≤ inbox.ports)) (into_iter_items l.inboxes);
  room : vec_len l.pumps + length (into_iter_items l.inboxes) ≤ vec_capacity l.pumps;
  count : vec_len l.pumps + length (into_iter_items l.inboxes) ≡ length (into_iter_items l.initial.inboxes);
}

abbrev pub decreases-loop-inbox : goal.decreases-loop-inbox
decreases-loop-inbox g l = length (into_iter_items l.inboxes)
