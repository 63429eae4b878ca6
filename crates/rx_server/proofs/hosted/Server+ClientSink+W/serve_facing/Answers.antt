-- The crew and the face are handed the desks that were not handed out.
use Rattle.std.proofs.Common.{◌≡◌, ◌∙◌, sym, refl, ap, subst, inl, inr, List, [], ◌∷◌, ◌++◌, append-nil, length, map, OnOk, Result, Ok, Err, arith}
use Rattle.std.proofs.lemmas.List.{length-append}
use Rattle.std.proofs.lemmas.Slice.Zip.{AllZip-long}
use Rattle.std.specs.List.{All}
use Rattle.std.specs.Arc.{arc_value}
use Rattle.std.specs.Vec.Iter.{into_iter_items}
use Rattle.rx_pump.specs.Desks.{DeskView, KeepsDesk}
use Rattle.rx_workers.specs.Crews.{IsFor}
use Rattle.rx_server.specs.Beside.{ServesBeside}
use Rattle.rx_server.specs.Servers.{IsDeskOf, IsWhole, server_of}
use Rattle.rx_server.proofs.Beside.{last-first}
use Rattle.rx_server.proofs.Desks.{desks-went}
use Rattle.rx_server.proofs.Whole.{desks-for, desks-own, rooms-kept, runs-still, whole-after}
use Rattle.rx_workers.specs.Workers.{peers}
use Rattle.rx_workers.specs.Service.{reception, surroundings}
use Rattle.rx_server.proofs.hosted.Server+ClientSink+W.serve_facing.Goals as goal

-- with too few desks, or without memory for lists of them, nothing was done
pub returns-then-count-lt2-clause-served : goal.returns-then-count-lt2-clause-served
returns-then-count-lt2-clause-served g c = inl (inl refl, refl)

pub returns-then-count-lt2-clause-same : goal.returns-then-count-lt2-clause-same
returns-then-count-lt2-clause-same g c = rw (← c.self.view_is) (runs-still _)

pub returns-in_default-clause-served : goal.returns-in_default-clause-served
returns-in_default-clause-served g c = inl (inr refl, refl)

pub returns-in_default-clause-same : goal.returns-in_default-clause-same
returns-in_default-clause-same g c = rw (← c.self.view_is) (runs-still _)

pub returns-in_default-room-clause-served : goal.returns-in_default-room-clause-served
returns-in_default-room-clause-served g c = inl (inr refl, refl)

pub returns-in_default-room-clause-same : goal.returns-in_default-room-clause-same
returns-in_default-room-clause-same g c = rw (← c.self.view_is) (runs-still _)

pub returns-in_default-shown-clause-same : goal.returns-in_default-shown-clause-same
returns-in_default-shown-clause-same g c = rw (← c.self.view_is) (runs-still _)

-- the desks are there, each of the configuration
pub serve_beside-served-requires-clause-fit : goal.serve_beside-served-requires-clause-fit
serve_beside-served-requires-clause-fit g c =
    let s = c.self.inside in
    let server = server_of (arc_value s.config) s.running.pumps.items (map (λ drainer. drainer.handle.promise.0.value) s.running.drainers.items) s.leaves.items s.made.value.items (into_iter_items s.desks) s.rooms.desks.items in
    let taken : c.take_all.new.taken.items ≡ into_iter_items s.desks =
    c.take_all.ensures.taken ∙ ap (λ (ds : List (DeskView _)). ds ++ into_iter_items s.desks) c.in-Ok.ensures.items in
    λ lifetimes bounds. subst (All (IsFor (arc_value s.config))) (sym taken) (desks-for server c.self.invariant.0)

-- and there is room for them again
pub take_all-requires-2 : goal.take_all-requires-2
take_all-requires-2 g c =
    let s = c.self.inside in
    let taken : c.take_all.new.taken.items ≡ into_iter_items s.desks =
    c.take_all.ensures.taken ∙ ap (λ (ds : List (DeskView _)). ds ++ into_iter_items s.desks) c.in-Ok.ensures.items in
    let back = c.serve_beside-served.result.1 in
    let crew = c.serve_beside-served.new.desks.items in
    let long = AllZip-long KeepsDesk c.take_all.new.taken.items (crew ++ back ∷ []) c.serve_beside-served.ensures.kept in
    let many = length-append crew (back ∷ []) in
    omega (
      arith,
      long,
      many,
      ap length taken,
      c.len-count.ensures,
      ap length c.into_iter.ensures.rest,
      c.push_reserved.ensures.len,
      c.push_reserved.ensures.capacity,
      ap length c.in-Ok-room.ensures.items,
      c.in-Ok-room.left.ok.0,
      c.in-Ok-room.ensures.capacity,
    )

pub finish_desks-requires : goal.finish_desks-requires
finish_desks-requires g c =
    let s = c.self.inside in
    let taken : c.take_all.new.taken.items ≡ into_iter_items s.desks =
    c.take_all.ensures.taken ∙ ap (λ (ds : List (DeskView _)). ds ++ into_iter_items s.desks) c.in-Ok.ensures.items in
    let back = c.serve_beside-served.result.1 in
    let crew = c.serve_beside-served.new.desks.items in
    let left : c.take_all-2.new.taken.items ≡ back ∷ crew =
    c.take_all-2.ensures.taken
    ∙ ap (λ (ds : List (DeskView _)). ds ++ into_iter_items c.into_iter.result) (c.push_reserved.ensures.items ∙ ap (λ (ds : List (DeskView _)). ds ++ back ∷ []) c.in-Ok-room.ensures.items)
    ∙ ap (λ (ds : List (DeskView _)). back ∷ ds) c.into_iter.ensures.rest in
    let long = AllZip-long KeepsDesk c.take_all.new.taken.items (crew ++ back ∷ []) c.serve_beside-served.ensures.kept in
    let many = length-append crew (back ∷ []) in
    omega (arith, long, many, ap length taken, ap length left, ap length c.into_iter-2.ensures.rest, c.self.invariant.1.desks_fit)

pub invariant_of-self : goal.invariant_of-self
invariant_of-self g c =
    let s = c.self.inside in
    let server = server_of (arc_value s.config) s.running.pumps.items (map (λ drainer. drainer.handle.promise.0.value) s.running.drainers.items) s.leaves.items s.made.value.items (into_iter_items s.desks) s.rooms.desks.items in
    let taken : c.take_all.new.taken.items ≡ into_iter_items s.desks =
    c.take_all.ensures.taken ∙ ap (λ (ds : List (DeskView _)). ds ++ into_iter_items s.desks) c.in-Ok.ensures.items in
    let back = c.serve_beside-served.result.1 in
    let crew = c.serve_beside-served.new.desks.items in
    let left : c.take_all-2.new.taken.items ≡ back ∷ crew =
    c.take_all-2.ensures.taken
    ∙ ap (λ (ds : List (DeskView _)). ds ++ into_iter_items c.into_iter.result) (c.push_reserved.ensures.items ∙ ap (λ (ds : List (DeskView _)). ds ++ back ∷ []) c.in-Ok-room.ensures.items)
    ∙ ap (λ (ds : List (DeskView _)). back ∷ ds) c.into_iter.ensures.rest in
    let own = subst (All (IsDeskOf s.made.value.items)) (sym taken) (desks-own server c.self.invariant.0) in
    let went = desks-went s.made.value.items c.take_all.new.taken.items (crew ++ back ∷ []) c.serve_beside-served.ensures.kept own in
    let turned = last-first (IsDeskOf s.made.value.items) crew c.take_all-2.new.taken.items back left went in
    let more = c.finish_desks.ensures.own s.made.value.items (subst (All (IsDeskOf s.made.value.items)) (sym c.into_iter-2.ensures.rest) turned) in
    let whole = whole-after server c.self.invariant.0 (into_iter_items s.desks) [] more.0 (sym (append-nil (into_iter_items s.desks))) more.2 in (
      subst (λ (kept : List _). IsWhole (server_of (arc_value s.config) s.running.pumps.items (map (λ drainer. drainer.handle.promise.0.value) s.running.drainers.items) s.leaves.items s.made.value.items (into_iter_items c.take_all.new.left) kept)) (sym more.1)
          (subst (λ (desks : List (DeskView _)). IsWhole (server_of (arc_value s.config) s.running.pumps.items (map (λ drainer. drainer.handle.promise.0.value) s.running.drainers.items) s.leaves.items s.made.value.items desks (s.rooms.desks.items ++ more.0))) (sym c.take_all.ensures.none) whole),
      rooms-kept _ _ _ _ _ s.rooms (record {
        desks = c.finish_desks.new.ended;
        leaves = s.rooms.leaves;
        pumps = s.rooms.pumps;
        drainers = s.rooms.drainers;
        subjects = s.rooms.subjects;
        put_away = s.rooms.put_away;
        returned = s.rooms.returned;
        settled = s.rooms.settled;
      }) (ap length c.take_all.ensures.none) c.self.invariant.1,
    )

on-ok : {T E : Type 0} (result : Result T E) (P : Type 0) → P → OnOk result P
on-ok (Ok x) P p = p
on-ok (Err fault) P p = tt

pub returns-clause-taken : goal.returns-clause-taken
returns-clause-taken g c = on-ok c.serve_beside-served.result.0 _ c.take_all.ensures.none

-- by these the crew and the face served
pub returns-clause-served : goal.returns-clause-served
returns-clause-served g c =
    let s = c.self.inside in
    let taken : c.take_all.new.taken.items ≡ into_iter_items s.desks =
    c.take_all.ensures.taken ∙ ap (λ (ds : List (DeskView _)). ds ++ into_iter_items s.desks) c.in-Ok.ensures.items in
    rw (← c.self.view_is)
    (inr (
      c.serve_beside-served.new.desks.items ++ c.serve_beside-served.result.1 ∷ [],
      subst (λ (ds : List (DeskView _)). ServesBeside (surroundings g.L.Listener.accepts g.L.Listener.fails (peers g.M.Moments.tells g.L.Reader.Read.remaining g.W.Write.contents)) (arc_value s.config) c.serve_beside-served.result.0 (reception c.args.listener.now ds)
          (reception c.serve_beside-served.new.listener (c.serve_beside-served.new.desks.items ++ c.serve_beside-served.result.1 ∷ []))) taken c.serve_beside-served.ensures.served,
    ))

-- none of them is left
pub returns-clause-same : goal.returns-clause-same
returns-clause-same g c =
    let s = c.self.inside in
    let server = server_of (arc_value s.config) s.running.pumps.items (map (λ drainer. drainer.handle.promise.0.value) s.running.drainers.items) s.leaves.items s.made.value.items (into_iter_items s.desks) s.rooms.desks.items in
    let taken : c.take_all.new.taken.items ≡ into_iter_items s.desks =
    c.take_all.ensures.taken ∙ ap (λ (ds : List (DeskView _)). ds ++ into_iter_items s.desks) c.in-Ok.ensures.items in
    let back = c.serve_beside-served.result.1 in
    let crew = c.serve_beside-served.new.desks.items in
    let left : c.take_all-2.new.taken.items ≡ back ∷ crew =
    c.take_all-2.ensures.taken
    ∙ ap (λ (ds : List (DeskView _)). ds ++ into_iter_items c.into_iter.result) (c.push_reserved.ensures.items ∙ ap (λ (ds : List (DeskView _)). ds ++ back ∷ []) c.in-Ok-room.ensures.items)
    ∙ ap (λ (ds : List (DeskView _)). back ∷ ds) c.into_iter.ensures.rest in
    let own = subst (All (IsDeskOf s.made.value.items)) (sym taken) (desks-own server c.self.invariant.0) in
    let went = desks-went s.made.value.items c.take_all.new.taken.items (crew ++ back ∷ []) c.serve_beside-served.ensures.kept own in
    let turned = last-first (IsDeskOf s.made.value.items) crew c.take_all-2.new.taken.items back left went in
    let more = c.finish_desks.ensures.own s.made.value.items (subst (All (IsDeskOf s.made.value.items)) (sym c.into_iter-2.ensures.rest) turned) in
    rw (← c.self.view_is)
    (record {
      config = refl;
      pumps = refl;
      drainers = refl;
      leaves = refl;
      made = refl;
      handed = into_iter_items s.desks;
      desks =
          sym (append-nil (into_iter_items s.desks))
          ∙ ap (λ (ds : List (DeskView _)). into_iter_items s.desks ++ ds) (sym c.take_all.ensures.none);
      more = more.0;
      kept = more.1;
      ended = more.2;
    })
