use Rattle.std.proofs.Common.{◌≡◌, ap, refl, List, [], length, sym, subst, Vec, vec_len, arith}
use Rattle.std.proofs.lemmas.List.Elements.{All-rest}
use Rattle.std.proofs.lemmas.Result.{err_from_is_err_and}
use Rattle.rx_mailbox.specs.Boxes.{Incoming, Outgoing}
use Rattle.rx_pump.specs.Desks.{fresh_desk}
use Rattle.rx_server.specs.declared.wired.start_fault.Role.TheVariants.{Worker}
use Rattle.rx_server.specs.Starting.{NoMemoryFor}
use Rattle.rx_server.specs.Wirings.{row_ports}
use Rattle.rx_server.proofs.Rows.{All-first, Handed-begun, Handed-ports, Handed-more, Handed-some, Made-begun, Made-more, put-count}
use Rattle.rx_server.proofs.wired.makers.make_desks.Goals as goal

pub loop-inbox-init : goal.loop-inbox-init
loop-inbox-init g c = record {
  made = Made-begun (λ x. fresh_desk (row_ports x.0 c.args.subjects.now.items) x.1) _ _ _ c.requires.none refl;
  handed = Handed-begun _ _ _ _ c.requires.none refl c.requires.subjects;
  fresh = c.requires.inboxes;
  room = omega (arith, c.requires.room, ap length c.requires.none, c.args.desks.now.ok);
  count = omega (arith, ap length c.requires.none, c.args.desks.now.ok);
}

pub put_desk-requires-clause-inbox : goal.put_desk-requires-clause-inbox
put_desk-requires-clause-inbox g c =
    All-first (λ (inbox : Incoming _). inbox.received ≡ []) _ _ _ c.in-Some.ensures.items c.loop-inbox.invariant.fresh

pub put_desk-requires-clause-subjects : goal.put_desk-requires-clause-subjects
put_desk-requires-clause-subjects g c = Handed-some _ _ _ _ _ _ c.in-Some.ensures.items c.loop-inbox.invariant.handed

pub put_desk-requires-clause-room : goal.put_desk-requires-clause-room
put_desk-requires-clause-room g c = omega (arith, c.loop-inbox.invariant.room, ap length c.in-Some.ensures.items)

pub loop-inbox-preserved : goal.loop-inbox-preserved
loop-inbox-preserved g c =
    let before = c.loop-inbox.invariant in
    let cut = c.in-Some.ensures.items in
    record {
      made = Made-more (λ x. fresh_desk (row_ports x.0 c.args.subjects.now.items) x.1) _ _ _ _ _ _ _ cut c.in_ok-put_desk.ensures.desks
          (ap (λ (ports : List (Outgoing _)). fresh_desk ports c.in-Some.inbox) (Handed-ports _ _ _ _ before.handed)) before.made;
      handed = Handed-more _ _ _ _ _ _ _ _ _ cut c.in_ok-put_desk.ensures.desks c.in_ok-put_desk.ensures.subjects before.handed;
      fresh = All-rest (λ (inbox : Incoming _). inbox.received ≡ []) _ _ _ cut before.fresh;
      room = omega (arith, before.room, ap length cut, put-count _ _ _ c.in_ok-put_desk.ensures.desks, c.put_desk.ensures.capacity);
      count = omega (arith, before.count, ap length cut, put-count _ _ _ c.in_ok-put_desk.ensures.desks);
    }

pub returns-in_err-put_desk-clause-fault : goal.returns-in_err-put_desk-clause-fault
returns-in_err-put_desk-clause-fault g c =
    let p = err_from_is_err_and c.from_residual.result c.from_residual.ensures.1 in
    rw (p.1, p.2)
    (subst (λ (list : Vec _ _). NoMemoryFor Worker (vec_len list) c.in_err-put_desk.field-0.0) (sym c.in_err-put_desk.ensures.same) c.in_err-put_desk.ensures.fault)

pub returns-in_err-put_desk-clause-fewer : goal.returns-in_err-put_desk-clause-fewer
returns-in_err-put_desk-clause-fewer g c =
    let p = err_from_is_err_and c.from_residual.result c.from_residual.ensures.1 in
    let same = ap (λ (list : Vec _ _). vec_len list) c.in_err-put_desk.ensures.same in
    rw p.1 (omega (arith, c.loop-inbox.invariant.count, ap length c.in-Some.ensures.items, same))
