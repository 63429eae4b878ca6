use Rattle.std.proofs.Common.{◌≡◌, ◌+◌, ap, refl, length, List, [], sym, subst, Vec, vec_len, arith}
use Rattle.std.proofs.lemmas.List.Elements.{All-rest}
use Rattle.std.proofs.lemmas.Result.{err_from_is_err_and}
use Rattle.rx_mailbox.specs.Boxes.{Incoming, Outgoing}
use Rattle.rx_drain.specs.Drainers.{fresh_drainer}
use Rattle.rx_server.specs.declared.wired.start_fault.Role.TheVariants.{Drainer}
use Rattle.rx_server.specs.Starting.{NoMemoryFor}
use Rattle.rx_server.specs.Wirings.{row_ports}
use Rattle.rx_server.proofs.Rows.{All-first, Handed-begun, Handed-ports, Handed-count, Handed-more, Handed-some, Made-begun, Made-more, put-count}
use Rattle.rx_server.proofs.wired.makers.make_drainers.Goals as goal

pub loop-inbox-init : goal.loop-inbox-init
loop-inbox-init g c = record {
  made = Made-begun (λ x. fresh_drainer c.args.keeps x.1 (row_ports x.0 c.args.subjects.now.items)) _ _ _ c.requires.none refl;
  handed = Handed-begun _ _ _ _ c.requires.none refl c.requires.subjects;
  fresh = c.requires.inboxes;
  room = omega (arith, c.requires.room, ap length c.requires.none, c.args.drainers.now.ok);
  count = omega (arith, ap length c.requires.none, c.args.drainers.now.ok);
}

pub put_drainer-requires-clause-inbox : goal.put_drainer-requires-clause-inbox
put_drainer-requires-clause-inbox g c =
    (All-first (λ (inbox : Incoming _). (inbox.received ≡ []) × (inbox.ports ≡ length c.args.subjects.now.items + 1)) _ _ _ c.in-Some.ensures.items c.loop-inbox.invariant.fresh).0

pub put_drainer-requires-clause-senders : goal.put_drainer-requires-clause-senders
put_drainer-requires-clause-senders g c =
    let before = c.loop-inbox.invariant in
    let ports = (All-first (λ (inbox : Incoming _). (inbox.received ≡ []) × (inbox.ports ≡ length c.args.subjects.now.items + 1)) _ _ _ c.in-Some.ensures.items before.fresh).1 in
    let count = Handed-count _ _ _ _ before.handed in
    omega (arith, ports, count)

pub put_drainer-requires-clause-subjects : goal.put_drainer-requires-clause-subjects
put_drainer-requires-clause-subjects g c = Handed-some _ _ _ _ _ _ c.in-Some.ensures.items c.loop-inbox.invariant.handed

pub put_drainer-requires-clause-room : goal.put_drainer-requires-clause-room
put_drainer-requires-clause-room g c = omega (arith, c.loop-inbox.invariant.room, ap length c.in-Some.ensures.items)

pub loop-inbox-preserved : goal.loop-inbox-preserved
loop-inbox-preserved g c =
    let before = c.loop-inbox.invariant in
    let cut = c.in-Some.ensures.items in
    record {
      made = Made-more (λ x. fresh_drainer c.args.keeps x.1 (row_ports x.0 c.args.subjects.now.items)) _ _ _ _ _ _ _ cut c.in_ok-put_drainer.ensures.drainers
          (ap (λ (ports : List (Outgoing _)). fresh_drainer c.args.keeps c.in-Some.inbox ports) (Handed-ports _ _ _ _ before.handed)) before.made;
      handed = Handed-more _ _ _ _ _ _ _ _ _ cut c.in_ok-put_drainer.ensures.drainers c.in_ok-put_drainer.ensures.subjects before.handed;
      fresh = All-rest (λ (inbox : Incoming _). (inbox.received ≡ []) × (inbox.ports ≡ length c.args.subjects.now.items + 1)) _ _ _ cut before.fresh;
      room = omega (arith, before.room, ap length cut, put-count _ _ _ c.in_ok-put_drainer.ensures.drainers, c.put_drainer.ensures.capacity);
      count = omega (arith, before.count, ap length cut, put-count _ _ _ c.in_ok-put_drainer.ensures.drainers);
    }

pub returns-in_err-put_drainer-clause-fault : goal.returns-in_err-put_drainer-clause-fault
returns-in_err-put_drainer-clause-fault g c =
    let p = err_from_is_err_and c.from_residual.result c.from_residual.ensures.1 in
    rw (p.1, p.2)
    (subst (λ (list : Vec _ _). NoMemoryFor Drainer (vec_len list) c.in_err-put_drainer.field-0.0) (sym c.in_err-put_drainer.ensures.same) c.in_err-put_drainer.ensures.fault)

pub returns-in_err-put_drainer-clause-fewer : goal.returns-in_err-put_drainer-clause-fewer
returns-in_err-put_drainer-clause-fewer g c =
    let p = err_from_is_err_and c.from_residual.result c.from_residual.ensures.1 in
    let same = ap (λ (list : Vec _ _). vec_len list) c.in_err-put_drainer.ensures.same in
    rw p.1 (omega (arith, c.loop-inbox.invariant.count, ap length c.in-Some.ensures.items, same))
