use Rattle.std.proofs.Common.{◌≡◌, ◌≤◌, ◌∙◌, ap, refl, length, List, map, arith, [], sym, subst, Vec, vec_len}
use Rattle.std.proofs.lemmas.List.Elements.{All-rest}
use Rattle.std.proofs.lemmas.Result.{err_from_is_err_and}
use Rattle.std.specs.Vec.Iter.{into_iter_items}
use Rattle.rx_history.specs.Histories.{NoEvents}
use Rattle.rx_hub.specs.Hubs.{HubView, StandsFor}
use Rattle.rx_mailbox.specs.Boxes.{Incoming, Outgoing}
use Rattle.rx_pump.specs.Pumps.{fresh_pump}
use Rattle.rx_server.specs.declared.wired.start_fault.Role.TheVariants.{Pump}
use Rattle.rx_server.specs.Starting.{NoMemoryFor}
use Rattle.rx_server.specs.Wirings.{next_port, row_ports}
use Rattle.rx_server.proofs.Rows.{All-first, Handed-begun, Handed-ports, Handed-count, Handed-more, Handed-some, Made-begun, Made-more, Made-all, empty, put-count, zip-same, zip-none}
use Rattle.rx_server.proofs.wired.makers.make_pumps.Goals as goal

pub loop-inbox-init : goal.loop-inbox-init
loop-inbox-init g c = record {
  made = Made-begun (λ x. fresh_pump x.1.0 x.1.1 (row_ports x.0 c.args.drainers.now.items) (row_ports x.0 c.args.replies.now.items)) _ _ _ c.requires.none refl;
  drainers = Handed-begun _ _ _ _ c.requires.none refl c.requires.drainers;
  replies = Handed-begun _ _ _ _ c.requires.none refl c.requires.replies;
  hubs = c.requires.hubs;
  fresh = c.requires.inboxes;
  room = omega (arith, c.requires.room, ap length c.requires.none, c.args.pumps.now.ok);
  count = omega (arith, ap length c.requires.none, c.args.pumps.now.ok);
}

pub put_pump-requires-clause-hub : goal.put_pump-requires-clause-hub
put_pump-requires-clause-hub g c =
    All-first (λ (hub : HubView). StandsFor hub.state NoEvents) _ _ _ c.in-Some-next.ensures.items c.loop-inbox.invariant.hubs

pub put_pump-requires-clause-inbox : goal.put_pump-requires-clause-inbox
put_pump-requires-clause-inbox g c =
    (All-first (λ (inbox : Incoming _). (inbox.received ≡ []) × (length c.args.replies.now.items ≤ inbox.ports)) _ _ _ c.in-Some.ensures.items c.loop-inbox.invariant.fresh).0

pub put_pump-requires-clause-ports : goal.put_pump-requires-clause-ports
put_pump-requires-clause-ports g c =
    let before = c.loop-inbox.invariant in
    let ports = (All-first (λ (inbox : Incoming _). (inbox.received ≡ []) × (length c.args.replies.now.items ≤ inbox.ports)) _ _ _ c.in-Some.ensures.items before.fresh).1 in
    let count = Handed-count _ _ _ _ before.replies in
    omega (arith, ports, count)

pub put_pump-requires-clause-some : goal.put_pump-requires-clause-some
put_pump-requires-clause-some g c =
    let count = Handed-count _ _ _ _ c.loop-inbox.invariant.drainers in
    omega (arith, c.requires.some, count)

pub put_pump-requires-clause-drainers : goal.put_pump-requires-clause-drainers
put_pump-requires-clause-drainers g c = Handed-some _ _ _ _ _ _ c.in-Some.ensures.items c.loop-inbox.invariant.drainers

pub put_pump-requires-clause-replies : goal.put_pump-requires-clause-replies
put_pump-requires-clause-replies g c = Handed-some _ _ _ _ _ _ c.in-Some.ensures.items c.loop-inbox.invariant.replies

pub put_pump-requires-clause-room : goal.put_pump-requires-clause-room
put_pump-requires-clause-room g c = omega (arith, c.loop-inbox.invariant.room, ap length c.in-Some.ensures.items)

pub loop-inbox-preserved : goal.loop-inbox-preserved
loop-inbox-preserved g c =
    let before = c.loop-inbox.invariant in
    let cut = c.in-Some.ensures.items in
    let hub_cut = c.in-Some-next.ensures.items in
    let put = c.in_ok-put_pump.ensures in
    record {
      made = Made-more (λ x. fresh_pump x.1.0 x.1.1 (row_ports x.0 c.args.drainers.now.items) (row_ports x.0 c.args.replies.now.items)) _ _ _ _ _ _ _ (zip-same _ _ _ _ hub_cut cut)
          put.pumps
          (ap (λ (ports : List (Outgoing _)). fresh_pump c.in-Some-next.hub c.in-Some.inbox ports (map next_port c.loop-inbox.replies.items)) (Handed-ports _ _ _ _ before.drainers)
          ∙ ap (λ (ports : List (Outgoing _)). fresh_pump c.in-Some-next.hub c.in-Some.inbox (row_ports (length c.loop-inbox.pumps.items) c.args.drainers.now.items) ports) (Handed-ports _ _ _ _ before.replies))
          before.made;
      drainers = Handed-more _ _ _ _ _ _ _ _ _ cut put.pumps put.drainers before.drainers;
      replies = Handed-more _ _ _ _ _ _ _ _ _ cut put.pumps put.replies before.replies;
      hubs = All-rest (λ (hub : HubView). StandsFor hub.state NoEvents) _ _ _ hub_cut before.hubs;
      fresh = All-rest (λ (inbox : Incoming _). (inbox.received ≡ []) × (length c.args.replies.now.items ≤ inbox.ports)) _ _ _ cut before.fresh;
      room = omega (arith, before.room, ap length cut, put-count _ _ _ put.pumps, c.put_pump.ensures.capacity);
      count = omega (arith, before.count, ap length cut, put-count _ _ _ put.pumps);
    }

pub returns-clause-pumps : goal.returns-clause-pumps
returns-clause-pumps g c =
    let none = empty (into_iter_items c.loop-inbox.inboxes) (omega (arith, c.in_default.ensures.cases)) in
    Made-all (λ x. fresh_pump x.1.0 x.1.1 (row_ports x.0 c.args.drainers.now.items) (row_ports x.0 c.args.replies.now.items)) _ _ _
    (zip-none (into_iter_items c.loop-inbox.hubs) (into_iter_items c.loop-inbox.inboxes) none) c.loop-inbox.invariant.made

pub returns-in_err-put_pump-clause-fault : goal.returns-in_err-put_pump-clause-fault
returns-in_err-put_pump-clause-fault g c =
    let p = err_from_is_err_and c.from_residual.result c.from_residual.ensures.1 in
    rw (p.1, p.2)
    (subst (λ (list : Vec _ _). NoMemoryFor Pump (vec_len list) c.in_err-put_pump.field-0.0) (sym c.in_err-put_pump.ensures.same) c.in_err-put_pump.ensures.fault)

pub returns-in_err-put_pump-clause-fewer : goal.returns-in_err-put_pump-clause-fewer
returns-in_err-put_pump-clause-fewer g c =
    let p = err_from_is_err_and c.from_residual.result c.from_residual.ensures.1 in
    let same = ap (λ (list : Vec _ _). vec_len list) c.in_err-put_pump.ensures.same in
    rw p.1 (omega (arith, c.loop-inbox.invariant.count, ap length c.in-Some.ensures.items, same))
