use Rattle.std.proofs.Common.{◌≡◌, ◌∙◌, [], sym, refl, ap, subst, length, map, vec_len, Vec, arith}
use Rattle.std.proofs.lemmas.List.Elements.{All-nil}
use Rattle.std.proofs.lemmas.Result.{err_from_is_err_and}
use Rattle.std.specs.List.{All, zip}
use Rattle.std.specs.Vec.Iter.{into_iter_items}
use Rattle.rx_config.specs.declared.config.Config.{Config}
use Rattle.rx_drain.specs.Drainers.{DrainerView}
use Rattle.rx_server.specs.declared.wired.start_fault.Role.TheVariants.{Pump, Worker}
use Rattle.rx_server.specs.Servers.{IsEndOf, IsWhole, server_of}
use Rattle.rx_server.specs.Wirings.{IsWired, desk_of, drainer_of, joined_parts, pump_of}
use Rattle.rx_server.proofs.Joining.{Rooms-as, desks-few, drainers-keep, hubs-count, made-count, mapped-count, zip-count}
use Rattle.rx_server.proofs.StartFaults.{memory-for, start-memory, start-run}
use Rattle.rx_server.proofs.server.launch.Goals as goal

pub rooms-requires : goal.rooms-requires
rooms-requires g c =
    let w = c.in_ok-wired.ensures.wired.0 in
    let hubs = c.in_ok-wired.ensures.wired.1 in
    let wired = c.in_ok-wired.ensures.wired.2 in
    let parts = c.in_ok-wired.wired in
    let config = c.args.config in
    let hubs_count = hubs-count config.subjects.items hubs wired.hubs_are ∙ sym wired.boxes.subjects in
    let pumps = made-count (pump_of w) (zip hubs w.subjects) parts.pumps.items wired.pumps_are ∙ zip-count hubs w.subjects hubs_count ∙ wired.boxes.subjects in
    let drainers = made-count {D = DrainerView _ _} (drainer_of w c.args.keeps) w.drainers parts.drainers.items wired.drainers_are ∙ wired.boxes.drainers in
    let desks = made-count (desk_of w) w.replies parts.desks.items wired.desks_are ∙ wired.boxes.replies in
    (omega (arith, drainers, desks, parts.desks.ok, parts.drainers.ok, (desks-few config).1, config.drainers_in_range), omega (arith, pumps, parts.pumps.ok, config.subjects_in_range, config.subjects.ok))

pub invariant_of-result : goal.invariant_of-result
invariant_of-result g c =
    let w = c.in_ok-wired.ensures.wired.0 in
    let hubs = c.in_ok-wired.ensures.wired.1 in
    let wired = c.in_ok-wired.ensures.wired.2 in
    let parts = c.in_ok-wired.wired in
    let running = c.in_ok-running.running in
    let leaves = c.into_ends-leaves.result.0 in
    let desks = into_iter_items c.into_ends-leaves.result.1 in
    let made = c.of-made.result.value in
    let made_are = c.of-made.ensures ∙ c.run.ensures.others.1 in
    let made_items = ap (λ (list : Vec _ _). list.items) made_are in
    let desks_are = ap (λ (list : Vec _ _). list.items) c.of-made.ensures ∙ sym c.into_ends-leaves.ensures.desks in
    let pumps_count = ap length c.in_ok-running.ensures.pumps in
    let drainers_count = mapped-count _ _ _ c.in_ok-running.ensures.drainers in
    let pumps : vec_len parts.pumps ≡ vec_len running.pumps = omega (arith, pumps_count, parts.pumps.ok, running.pumps.ok) in
    let drainers : vec_len parts.drainers ≡ vec_len running.drainers = omega (arith, drainers_count, parts.drainers.ok, running.drainers.ok) in
    let all_desks : vec_len parts.desks ≡ vec_len made = sym (ap (λ (list : Vec _ _). vec_len list) made_are) in
    let left : vec_len parts.desks ≡ length desks = omega (arith, ap length desks_are, ap length made_items, parts.desks.ok) in
    let whole : IsWhole (server_of c.args.config running.pumps.items (map (λ drainer. drainer.handle.promise.0.value) running.drainers.items) leaves.items made.items desks c.in_ok-rooms.rooms.desks.items) = record {
      wiring = w;
      hubs = hubs;
      keeps = c.args.keeps;
      wired = record {
        boxes = wired.boxes;
        hubs_are = wired.hubs_are;
        pumps_are = c.in_ok-running.ensures.pumps ∙ wired.pumps_are;
        drainers_are = c.in_ok-running.ensures.drainers ∙ wired.drainers_are;
        leaves_are = c.into_ends-leaves.ensures.leaves ∙ ap (λ (list : Vec _ _). list.items) c.run.ensures.others.0 ∙ wired.leaves_are;
        desks_are = made_items ∙ wired.desks_are;
      };
      handed = [];
      parts = desks_are;
      ended = subst (All (IsEndOf made.items)) (sym c.in_ok-rooms.ensures.no_desk) (All-nil (IsEndOf made.items));
      some = omega (arith, c.args.config.subjects_in_range, c.args.config.subjects.ok);
    } in (
      subst (λ (config : Config). IsWhole (server_of config running.pumps.items (map (λ drainer. drainer.handle.promise.0.value) running.drainers.items) leaves.items made.items desks c.in_ok-rooms.rooms.desks.items)) (sym c.in_ok-heap.ensures.shared) whole,
      Rooms-as _ _ _ _ _ _ _ _ c.in_ok-rooms.rooms pumps drainers all_desks left c.in_ok-rooms.ensures.rooms,
    )

pub returns-clause-started : goal.returns-clause-started
returns-clause-started g c =
    let w = c.in_ok-wired.ensures.wired.0 in
    let hubs = c.in_ok-wired.ensures.wired.1 in
    let wired = c.in_ok-wired.ensures.wired.2 in
    let made_items = ap (λ (list : Vec _ _). list.items) (c.of-made.ensures ∙ c.run.ensures.others.1) in
    let desks_are = ap (λ (list : Vec _ _). list.items) c.of-made.ensures ∙ sym c.into_ends-leaves.ensures.desks in (
      w,
      hubs,
      record {
        config_is = c.in_ok-heap.ensures.shared;
        wired = subst (λ (config : Config). IsWired config w hubs c.args.keeps (joined_parts c.in_ok-running.running.pumps.items (map (λ drainer. drainer.handle.promise.0.value) c.in_ok-running.running.drainers.items) c.into_ends-leaves.result.0.items c.of-made.result.value.items)) refl
            (record {
              boxes = wired.boxes;
              hubs_are = wired.hubs_are;
              pumps_are = c.in_ok-running.ensures.pumps ∙ wired.pumps_are;
              drainers_are = c.in_ok-running.ensures.drainers ∙ wired.drainers_are;
              leaves_are = c.into_ends-leaves.ensures.leaves ∙ ap (λ (list : Vec _ _). list.items) c.run.ensures.others.0 ∙ wired.leaves_are;
              desks_are = made_items ∙ wired.desks_are;
            });
        desks_are = sym desks_are;
        none_kept = c.in_ok-rooms.ensures.no_desk;
        each_keeps = subst (All (λ (drainer : DrainerView _ _). drainer.keeps ≡ c.args.keeps)) (sym (c.in_ok-running.ensures.drainers ∙ wired.drainers_are)) (drainers-keep w c.args.keeps 0 w.drainers);
      },
    )

-- WHY IT WAS NOT STARTED

pub returns-in_err-wired-clause-fault : goal.returns-in_err-wired-clause-fault
returns-in_err-wired-clause-fault g c =
    let p = err_from_is_err_and c.from_residual.result c.from_residual.ensures.1 in
    rw (p.1, p.2) (start-memory c.args.config c.in_err-wired.field-0.0 c.in_err-wired.ensures.fault)

pub returns-in_err-rooms-clause-fault : goal.returns-in_err-rooms-clause-fault
returns-in_err-rooms-clause-fault g c =
    let p = err_from_is_err_and c.from_residual-in_err-rooms.result c.from_residual-in_err-rooms.ensures.1 in
    let config = c.args.config in
    let fault = c.in_err-rooms.field-0.0 in
    rw (p.1, p.2) (start-memory config fault (memory-for config fault Pump 0 (omega (arith, config.subjects_in_range, config.subjects.ok)) c.in_err-rooms.ensures.fault))

pub returns-in_err-heap-clause-fault : goal.returns-in_err-heap-clause-fault
returns-in_err-heap-clause-fault g c =
    let p = err_from_is_err_and c.from_residual-in_err-heap.result c.from_residual-in_err-heap.ensures.1 in
    let config = c.args.config in
    let fault = c.in_err-heap.field-0.0 in
    rw (p.1, p.2) (start-memory config fault (memory-for config fault Worker 0 (omega (arith, (desks-few config).0)) c.in_err-heap.ensures.fault))

pub returns-in_err-running-clause-fault : goal.returns-in_err-running-clause-fault
returns-in_err-running-clause-fault g c =
    let p = err_from_is_err_and c.from_residual-in_err-running.result c.from_residual-in_err-running.ensures.1 in
    let w = c.in_ok-wired.ensures.wired.0 in
    let hubs = c.in_ok-wired.ensures.wired.1 in
    let wired = c.in_ok-wired.ensures.wired.2 in
    let parts = c.in_ok-wired.wired in
    let config = c.args.config in
    let hubs_count = hubs-count config.subjects.items hubs wired.hubs_are ∙ sym wired.boxes.subjects in
    let pumps = made-count (pump_of w) (zip hubs w.subjects) parts.pumps.items wired.pumps_are ∙ zip-count hubs w.subjects hubs_count ∙ wired.boxes.subjects in
    let drainers = made-count {D = DrainerView _ _} (drainer_of w c.args.keeps) w.drainers parts.drainers.items wired.drainers_are ∙ wired.boxes.drainers in
    rw (p.1, p.2)
    (start-run config c.in_err-running.field-0.0 (vec_len parts.pumps) (vec_len parts.drainers)
    (omega (arith, pumps, parts.pumps.ok, config.subjects_in_range, config.subjects.ok)) (omega (arith, pumps, parts.pumps.ok))
    (omega (arith, drainers, parts.drainers.ok, config.drainers_in_range)) (omega (arith, drainers, parts.drainers.ok)) c.in_err-running.ensures.fault)
