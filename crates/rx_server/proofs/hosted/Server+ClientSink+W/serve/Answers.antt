-- The crew is handed the desks that were not handed out.
use Rattle.std.proofs.Common.{◌≡◌, ◌∙◌, sym, refl, ap, subst, List, [], ◌++◌, append-nil, length, map, arith}
use Rattle.std.proofs.lemmas.Slice.Zip.{AllZip-long}
use Rattle.std.specs.List.{All}
use Rattle.std.specs.Arc.{arc_value}
use Rattle.std.specs.Vec.Iter.{into_iter_items}
use Rattle.rx_pump.specs.Desks.{DeskView, KeepsDesk}
use Rattle.rx_workers.specs.Crews.{IsFor}
use Rattle.rx_server.specs.Servers.{IsDeskOf, IsWhole, server_of}
use Rattle.rx_server.proofs.Desks.{desks-went}
use Rattle.rx_server.proofs.Whole.{desks-for, desks-own, rooms-kept, runs-still, whole-after}
use Rattle.rx_workers.specs.Workers.{peers}
use Rattle.rx_workers.specs.Service.{ServesUntil, reception, surroundings}
use Rattle.rx_server.proofs.hosted.Server+ClientSink+W.serve.Goals as goal

pub returns-clause-served : goal.returns-clause-served
returns-clause-served g c =
    let crew = c.serve_connections-served in
    let taken : c.take_all.new.taken.items ≡ into_iter_items c.self.inside.desks =
    c.take_all.ensures.taken ∙ ap (λ (ds : List (DeskView _)). ds ++ into_iter_items c.self.inside.desks) c.in-Ok.ensures.items in
    rw (← c.self.view_is) (
      crew.new.desks.items,
      subst (λ (ds : List (DeskView _)). ServesUntil (surroundings g.L.Listener.accepts g.L.Listener.fails (peers g.M.Moments.tells g.L.Reader.Read.remaining g.W.Write.contents))
          (arc_value c.self.inside.config) crew.result (reception c.args.listener.now ds) (reception crew.new.listener crew.new.desks.items)) taken crew.ensures.served,
    )

-- the desks are there, and the workers have theirs by them
pub serve_connections-served-requires-after_bounds : goal.serve_connections-served-requires-after_bounds
serve_connections-served-requires-after_bounds g c =
    let s = c.self.inside in
    let server = server_of (arc_value s.config) s.running.pumps.items (map (λ drainer. drainer.handle.promise.0.value) s.running.drainers.items) s.leaves.items s.made.value.items (into_iter_items s.desks) s.rooms.desks.items in
    let taken : c.take_all.new.taken.items ≡ into_iter_items s.desks =
    c.take_all.ensures.taken ∙ ap (λ (ds : List (DeskView _)). ds ++ into_iter_items s.desks) c.in-Ok.ensures.items in
    λ lifetimes bounds. subst (All (IsFor (arc_value s.config))) (sym taken) (desks-for server c.self.invariant.0)

pub finish_desks-requires : goal.finish_desks-requires
finish_desks-requires g c =
    let s = c.self.inside in
    let taken = c.take_all.ensures.taken ∙ ap (λ (ds : List (DeskView _)). ds ++ into_iter_items s.desks) c.in-Ok.ensures.items in
    let long = AllZip-long KeepsDesk c.take_all.new.taken.items c.serve_connections-served.new.desks.items c.serve_connections-served.ensures.desks in
    omega (arith, long, ap length taken, ap length c.into_iter.ensures.rest, c.self.invariant.1.desks_fit)

-- without a desk, or without memory for a list of them, nothing was done
pub returns-then-count-eq0-clause-same : goal.returns-then-count-eq0-clause-same
returns-then-count-eq0-clause-same g c = rw (← c.self.view_is) (runs-still _)

pub returns-in_default-clause-same : goal.returns-in_default-clause-same
returns-in_default-clause-same g c = rw (← c.self.view_is) (runs-still _)

pub invariant_of-self : goal.invariant_of-self
invariant_of-self g c =
    let s = c.self.inside in
    let server = server_of (arc_value s.config) s.running.pumps.items (map (λ drainer. drainer.handle.promise.0.value) s.running.drainers.items) s.leaves.items s.made.value.items (into_iter_items s.desks) s.rooms.desks.items in
    let taken : c.take_all.new.taken.items ≡ into_iter_items s.desks =
    c.take_all.ensures.taken ∙ ap (λ (ds : List (DeskView _)). ds ++ into_iter_items s.desks) c.in-Ok.ensures.items in
    let own = subst (All (IsDeskOf s.made.value.items)) (sym taken) (desks-own server c.self.invariant.0) in
    let went = desks-went s.made.value.items c.take_all.new.taken.items c.serve_connections-served.new.desks.items c.serve_connections-served.ensures.desks own in
    let more = c.finish_desks.ensures.own s.made.value.items (subst (All (IsDeskOf s.made.value.items)) (sym c.into_iter.ensures.rest) went) in
    let whole = whole-after server c.self.invariant.0 (into_iter_items s.desks) [] more.0 (sym (append-nil (into_iter_items s.desks))) more.2 in (
      subst (λ (kept : List _). IsWhole (server_of (arc_value s.config) s.running.pumps.items (map (λ drainer. drainer.handle.promise.0.value) s.running.drainers.items) s.leaves.items s.made.value.items (into_iter_items c.take_all.new.left) kept)) (sym more.1)
          (subst (λ (desks : List (DeskView _)). IsWhole (server_of (arc_value s.config) s.running.pumps.items (map (λ drainer. drainer.handle.promise.0.value) s.running.drainers.items) s.leaves.items s.made.value.items desks (s.rooms.desks.items ++ more.0))) (sym c.take_all.ensures.none) whole),
      rooms-kept _ _ _ _ _ s.rooms (record {
        desks = c.finish_desks.new.ended;
        leaves = s.rooms.leaves;
        pumps = s.rooms.pumps;
        drainers = s.rooms.drainers;
        subjects = s.rooms.subjects;
        put_away = s.rooms.put_away;
        returned = s.rooms.returned;
        settled = s.rooms.settled;
      }) (ap length c.take_all.ensures.none) c.self.invariant.1,
    )

-- none of them is left
pub returns-clause-same : goal.returns-clause-same
returns-clause-same g c =
    let s = c.self.inside in
    let server = server_of (arc_value s.config) s.running.pumps.items (map (λ drainer. drainer.handle.promise.0.value) s.running.drainers.items) s.leaves.items s.made.value.items (into_iter_items s.desks) s.rooms.desks.items in
    let taken : c.take_all.new.taken.items ≡ into_iter_items s.desks =
    c.take_all.ensures.taken ∙ ap (λ (ds : List (DeskView _)). ds ++ into_iter_items s.desks) c.in-Ok.ensures.items in
    let own = subst (All (IsDeskOf s.made.value.items)) (sym taken) (desks-own server c.self.invariant.0) in
    let went = desks-went s.made.value.items c.take_all.new.taken.items c.serve_connections-served.new.desks.items c.serve_connections-served.ensures.desks own in
    let more = c.finish_desks.ensures.own s.made.value.items (subst (All (IsDeskOf s.made.value.items)) (sym c.into_iter.ensures.rest) went) in
    rw (← c.self.view_is)
    (record {
      config = refl;
      pumps = refl;
      drainers = refl;
      leaves = refl;
      made = refl;
      handed = into_iter_items s.desks;
      desks =
          sym (append-nil (into_iter_items s.desks))
          ∙ ap (λ (ds : List (DeskView _)). into_iter_items s.desks ++ ds) (sym c.take_all.ensures.none);
      more = more.0;
      kept = more.1;
      ended = more.2;
    })
