use Rattle.std.proofs.Common.{◌≡◌, ◌++◌, map}
use Rattle.std.specs.List.{All, FoldsTo}
use Rattle.std.specs.Vec.Iter.{into_iter_items}
use Rattle.rx_mailbox.specs.Parts.{HasRoom, dealt_each, missing}
use Rattle.rx_server.specs.Returning.{ReturnsInbox}
use Rattle.rx_server.proofs.close.returned.return_desks.Given as goal

-- the first desks came back
abbrev pub invariant-loop-desk : goal.invariant-loop-desk
invariant-loop-desk g l = record {
  desks : l.yielded ++ into_iter_items l.desk-iterator ≡ l.fn.desks.items;
  ports : l.subjects.items ≡ dealt_each (map (λ desk. desk.ports.items) l.yielded) l.initial.subjects.items;
  inboxes : FoldsTo ReturnsInbox l.initial.replies.items l.yielded l.replies.items;
  room : All (HasRoom (missing l.replies.items)) l.subjects.items;
}
