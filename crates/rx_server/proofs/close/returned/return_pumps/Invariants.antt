use Rattle.std.proofs.Common.{◌≡◌, ◌++◌, ◌+◌, ◌≤◌, length, map, vec_len, vec_capacity}
use Rattle.std.specs.List.{All}
use Rattle.std.specs.Vec.Iter.{into_iter_items}
use Rattle.rx_mailbox.specs.Parts.{HasRoom, dealt_each, with_inboxes}
use Rattle.rx_server.specs.Servers.{report_of}
use Rattle.rx_server.proofs.close.returned.return_pumps.Given as goal

-- what the first pumps left came back and is listed, and there is room for the others
abbrev pub invariant-loop-end : goal.invariant-loop-end
invariant-loop-end g l = record {
  ends : l.yielded ++ into_iter_items l.end-iterator ≡ l.fn.ends.items;
  listed : l.reports.items ≡ map report_of l.yielded;
  room : vec_len l.reports + length (into_iter_items l.end-iterator) ≤ vec_capacity l.reports;
  inboxes : l.subjects.items ≡ with_inboxes (map (λ end. end.inbox) l.yielded) l.initial.subjects.items;
  outs : l.drainers.items ≡ dealt_each (map (λ end. end.drainers.items) l.yielded) l.initial.drainers.items;
  drainers_fit : All (HasRoom (length (into_iter_items l.end-iterator))) l.drainers.items;
  replies_fit : All (HasRoom (length (into_iter_items l.end-iterator))) l.replies.items;
  answers : l.replies.items ≡ dealt_each (map (λ end. end.replies.items) l.yielded) l.initial.replies.items;
}
