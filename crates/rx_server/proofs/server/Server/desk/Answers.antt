use Rattle.std.proofs.Common.{◌∙◌, ◌+◌, ◌<◌, ap, subst, List, length, length-append, map, option_to_list, arith}
use Rattle.std.specs.Arc.{arc_value}
use Rattle.std.specs.List.{All}
use Rattle.std.specs.Vec.Iter.{into_iter_items}
use Rattle.rx_workers.specs.Crews.{IsFor}
use Rattle.rx_server.specs.Servers.{IsDeskOf, server_of}
use Rattle.rx_server.proofs.Whole.{All-next, Some-weaker, desks-for, desks-own, for-some, rooms-less, whole-next}
use Rattle.rx_server.proofs.server.Server.desk.Goals as goal

pub invariant_of-self : goal.invariant_of-self
invariant_of-self g c =
    let s = c.self.inside in
    let server = server_of (arc_value s.config) s.running.pumps.items (map (λ drainer. drainer.handle.promise.0.value) s.running.drainers.items) s.leaves.items s.made.value.items (into_iter_items s.desks) s.rooms.desks.items in
    let count = ap length c.next.ensures.items ∙ length-append (option_to_list c.next.result) (into_iter_items c.next.new.self) in (
      whole-next server c.self.invariant.0 (option_to_list c.next.result) (into_iter_items c.next.new.self) c.next.ensures.items,
      rooms-less _ _ _ _ _ s.rooms (omega (arith, count)) c.self.invariant.1,
    )

pub returns-clause-ports : goal.returns-clause-ports
returns-clause-ports g c =
    let s = c.self.inside in
    let server = server_of (arc_value s.config) s.running.pumps.items (map (λ drainer. drainer.handle.promise.0.value) s.running.drainers.items) s.leaves.items s.made.value.items (into_iter_items s.desks) s.rooms.desks.items in
    rw (← c.self.view_is)
    (All-next (IsFor (arc_value s.config)) c.next.result (into_iter_items c.next.new.self)
    (subst (λ (l : List _). All (IsFor (arc_value s.config)) l) c.next.ensures.items (desks-for server c.self.invariant.0)))

pub returns-clause-some : goal.returns-clause-some
returns-clause-some g c =
    let s = c.self.inside in
    let server = server_of (arc_value s.config) s.running.pumps.items (map (λ drainer. drainer.handle.promise.0.value) s.running.drainers.items) s.leaves.items s.made.value.items (into_iter_items s.desks) s.rooms.desks.items in
    Some-weaker (IsFor (arc_value s.config)) (λ desk. 0 < length desk.ports + length desk.ended) c.next.result (for-some (arc_value s.config) c.self.invariant.0.some)
    (All-next (IsFor (arc_value s.config)) c.next.result (into_iter_items c.next.new.self)
    (subst (λ (l : List _). All (IsFor (arc_value s.config)) l) c.next.ensures.items (desks-for server c.self.invariant.0)))

pub returns-clause-own : goal.returns-clause-own
returns-clause-own g c =
    let s = c.self.inside in
    let server = server_of (arc_value s.config) s.running.pumps.items (map (λ drainer. drainer.handle.promise.0.value) s.running.drainers.items) s.leaves.items s.made.value.items (into_iter_items s.desks) s.rooms.desks.items in
    rw (← c.self.view_is)
    (All-next (IsDeskOf s.made.value.items) c.next.result (into_iter_items c.next.new.self)
    (subst (λ (l : List _). All (IsDeskOf s.made.value.items) l) c.next.ensures.items (desks-own server c.self.invariant.0)))
