use Rattle.std.proofs.Common.{◌≡◌, ◌++◌, ◌+◌, ◌≤◌, length, map, vec_len, vec_capacity}
use Rattle.std.specs.List.{All, sum_by}
use Rattle.std.specs.Vec.Iter.{into_iter_items}
use Rattle.rx_pump.specs.Pumps.{counted}
use Rattle.rx_mailbox.specs.Parts.{HasRoom, dealt_each, with_inboxes}
use Rattle.rx_server.proofs.close.returned.return_drainers.Given as goal

-- what the first drainers left came back, is counted and listed, and there is room for the others
abbrev pub invariant-loop-end : goal.invariant-loop-end
invariant-loop-end g l = record {
  ends : l.yielded ++ into_iter_items l.end-iterator ≡ l.fn.ends.items;
  taken : l.taken ≡ counted (sum_by (λ end. end.taken) l.yielded);
  listed : l.lists.items ≡ map (λ end. end.put_away) l.yielded;
  room : vec_len l.lists + length (into_iter_items l.end-iterator) ≤ vec_capacity l.lists;
  inboxes : l.drainers.items ≡ with_inboxes (map (λ end. end.inbox) l.yielded) l.initial.drainers.items;
  ports_fit : All (HasRoom (length (into_iter_items l.end-iterator))) l.subjects.items;
  calls : l.subjects.items ≡ dealt_each (map (λ end. end.ports.items) l.yielded) l.initial.subjects.items;
}
