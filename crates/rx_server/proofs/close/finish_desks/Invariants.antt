use Rattle.std.proofs.Common.{◌+◌, ◌≤◌, List, length, vec_len, vec_capacity}
use Rattle.std.specs.Vec.Iter.{into_iter_items}
use Rattle.rx_pump.specs.Desks.{DeskView}
use Rattle.rx_server.proofs.Desks.{EndedSome, GoneThrough}
use Rattle.rx_server.proofs.close.finish_desks.Given as goal

-- some desks have ended, and there is room for the others
abbrev pub invariant-loop-desk : goal.invariant-loop-desk
invariant-loop-desk g l = record {
  room : vec_len l.ended + length (into_iter_items l.desks) ≤ vec_capacity l.ended;
  gone : GoneThrough (into_iter_items l.initial.desks) l.initial.ended.items l.ended.items (into_iter_items l.desks);
  ends : (made : List (DeskView _)) → EndedSome made (into_iter_items l.initial.desks) l.initial.ended.items l.ended.items (into_iter_items l.desks);
}

abbrev pub decreases-loop-desk : goal.decreases-loop-desk
decreases-loop-desk g l = length (into_iter_items l.desks)
