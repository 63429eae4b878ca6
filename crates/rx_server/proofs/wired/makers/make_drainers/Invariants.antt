use Rattle.std.proofs.Common.{◌≡◌, ◌+◌, ◌≤◌, [], length, vec_len, vec_capacity}
use Rattle.std.specs.List.{All}
use Rattle.std.specs.Vec.Iter.{into_iter_items}
use Rattle.rx_drain.specs.Drainers.{fresh_drainer}
use Rattle.rx_server.specs.Wirings.{row_ports}
use Rattle.rx_server.proofs.Rows.{Handed, Made}
use Rattle.rx_server.proofs.wired.makers.make_drainers.Given as goal

-- the first inboxes have their drainers, and each subject has a port for each of the others
abbrev pub invariant-loop-inbox : goal.invariant-loop-inbox
invariant-loop-inbox g l = record {
  made : Made (λ x. fresh_drainer l.keeps x.1 (row_ports x.0 l.initial.subjects.items)) (into_iter_items l.initial.inboxes) l.drainers.items (into_iter_items l.inboxes);
  handed : Handed l.initial.subjects.items l.subjects.items l.drainers.items (into_iter_items l.inboxes);
  fresh : All (λ inbox. (inbox.received ≡ []) × (inbox.ports ≡ length l.initial.subjects.items + 1)) (into_iter_items l.inboxes);
  room : vec_len l.drainers + length (into_iter_items l.inboxes) ≤ vec_capacity l.drainers;
  count : vec_len l.drainers + length (into_iter_items l.inboxes) ≡ length (into_iter_items l.initial.inboxes);
}

abbrev pub decreases-loop-inbox : goal.decreases-loop-inbox
decreases-loop-inbox g l = length (into_iter_items l.inboxes)
