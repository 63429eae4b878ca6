use Rattle.std.proofs.Common.{◌≡◌, ◌+◌, ◌<◌, ◌≤◌, ap, refl, subst, sym, ℕ, [], length, arith}
use Rattle.std.proofs.lemmas.List.Elements.{All-same, All-weaker}
use Rattle.std.proofs.lemmas.Result.{err_from_is_err_and}
use Rattle.std.specs.Vec.Iter.{into_iter_items}
use Rattle.rx_history.specs.Histories.{NoEvents}
use Rattle.rx_hub.specs.Hubs.{HubView, StandsFor}
use Rattle.rx_mailbox.specs.Boxes.{Incoming}
use Rattle.rx_server.specs.declared.wired.start_fault.Role.TheVariants.{Drainer, Pump, Worker}
use Rattle.rx_server.specs.Wirings.{AreHubsOf, RowView, desk_count}
use Rattle.rx_server.proofs.Joining.{boxes-are, desks-wired, drainers-wired, inboxes-count, inboxes-new, leaves-wired, left-count, made-count, pumps-count, pumps-wired, rows-count, rows-have, rows-left}
use Rattle.rx_server.proofs.StartFaults.{memory-below, memory-for}
use Rattle.rx_server.proofs.wired.join.Goals as goal

pub make_pumps-requires-clause-hubs : goal.make_pumps-requires-clause-hubs
make_pumps-requires-clause-hubs g c = All-same (λ (hub : HubView). StandsFor hub.state NoEvents) _ _ c.into_iter-hubs.ensures.rest c.in_ok-hubs.ensures.hubs.fresh

pub make_pumps-requires-clause-inboxes : goal.make_pumps-requires-clause-inboxes
make_pumps-requires-clause-inboxes g c =
    let config = c.args.config.now in
    let opened = c.requires.boxes.1 in
    let replies = rows-count _ _ _ _ _ _ opened.replies in
    let enough : length c.args.boxes.now.replies.rows.items ≤ desk_count config + config.drainers = omega (arith, replies) in
    inboxes-new _ _ _ (λ (inbox : Incoming _). (inbox.received ≡ []) × (length c.args.boxes.now.replies.rows.items ≤ inbox.ports)) opened.subjects.inboxes_are
    (λ box. (refl, enough))

pub make_pumps-requires-clause-drainers : goal.make_pumps-requires-clause-drainers
make_pumps-requires-clause-drainers g c =
    let opened = c.requires.boxes.1 in
    let subjects = inboxes-count _ _ _ _ _ _ opened.subjects in
    let enough : length (into_iter_items c.args.boxes.now.subjects.inboxes) ≤ length c.args.config.now.subjects.items + 1 = omega (arith, subjects) in
    rows-have _ _ _ _ opened.drainers.rows_are enough

pub make_pumps-requires-clause-replies : goal.make_pumps-requires-clause-replies
make_pumps-requires-clause-replies g c =
    let opened = c.requires.boxes.1 in
    let subjects = inboxes-count _ _ _ _ _ _ opened.subjects in
    let enough : length (into_iter_items c.args.boxes.now.subjects.inboxes) ≤ length c.args.config.now.subjects.items = omega (arith, subjects) in
    rows-have _ _ _ _ opened.replies.rows_are enough

pub make_pumps-requires-clause-none : goal.make_pumps-requires-clause-none
make_pumps-requires-clause-none g c = c.requires.rooms.no_pumps

pub make_pumps-requires-clause-room : goal.make_pumps-requires-clause-room
make_pumps-requires-clause-room g c =
    let subjects = inboxes-count _ _ _ _ _ _ c.requires.boxes.1.subjects in
    omega (arith, subjects, c.requires.rooms.pumps_fit)

pub put_ports-requires-clause-rows : goal.put_ports-requires-clause-rows
put_ports-requires-clause-rows g c =
    let opened = c.requires.boxes.1 in
    let inboxes = inboxes-count _ _ _ _ _ _ opened.subjects in
    let hubs = subst (AreHubsOf c.args.config.now.subjects.items) (sym c.into_iter-hubs.ensures.rest) c.in_ok-hubs.ensures.hubs in
    let pumps = pumps-count _ _ _ _ _ hubs inboxes c.in_ok-make_pumps.ensures.pumps in
    let enough : 1 + c.make_pumps.new.pumps.len ≤ length c.args.config.now.subjects.items + 1 = omega (arith, pumps, c.make_pumps.new.pumps.ok) in
    All-weaker (λ (row : RowView _). 1 ≤ row.count) (λ (row : RowView _). 0 < row.count) (λ row some. omega (arith, some)) _
    (rows-left _ _ _ _ _ _ opened.drainers.rows_are c.in_ok-make_pumps.ensures.drainers enough)

pub put_ports-requires-clause-none : goal.put_ports-requires-clause-none
put_ports-requires-clause-none g c = c.requires.rooms.no_leaves

pub put_ports-requires-clause-room : goal.put_ports-requires-clause-room
put_ports-requires-clause-room g c =
    let rows = rows-count _ _ _ _ _ _ c.requires.boxes.1.drainers in
    let left = left-count _ _ _ c.in_ok-make_pumps.ensures.drainers in
    omega (arith, rows, left, c.requires.rooms.leaves_fit, c.make_pumps.new.drainers.ok)

pub make_desks-requires-clause-inboxes : goal.make_desks-requires-clause-inboxes
make_desks-requires-clause-inboxes g c =
    inboxes-new _ _ _ (λ (inbox : Incoming _). inbox.received ≡ []) c.requires.boxes.1.replies.inboxes_are (λ box. refl)

pub make_desks-requires-clause-subjects : goal.make_desks-requires-clause-subjects
make_desks-requires-clause-subjects g c =
    let config = c.args.config.now in
    let opened = c.requires.boxes.1 in
    let replies = inboxes-count _ _ _ _ _ _ opened.replies in
    let enough : length (into_iter_items c.args.boxes.now.replies.inboxes) ≤ desk_count config + config.drainers = omega (arith, replies) in
    rows-have _ _ _ _ opened.subjects.rows_are enough

pub make_desks-requires-clause-none : goal.make_desks-requires-clause-none
make_desks-requires-clause-none g c = c.requires.rooms.no_desks

pub make_desks-requires-clause-room : goal.make_desks-requires-clause-room
make_desks-requires-clause-room g c =
    let replies = inboxes-count _ _ _ _ _ _ c.requires.boxes.1.replies in
    omega (arith, replies, c.requires.rooms.desks_fit)

pub make_drainers-requires-clause-inboxes : goal.make_drainers-requires-clause-inboxes
make_drainers-requires-clause-inboxes g c =
    let opened = c.requires.boxes.1 in
    let subjects = rows-count _ _ _ _ _ _ opened.subjects in
    let left = left-count _ _ _ c.in_ok-make_desks.ensures.subjects in
    let senders : length c.args.config.now.subjects.items + 1 ≡ length c.make_desks.new.subjects.items + 1 = omega (arith, subjects, left) in
    inboxes-new _ _ _ (λ (inbox : Incoming _). (inbox.received ≡ []) × (inbox.ports ≡ length c.make_desks.new.subjects.items + 1)) opened.drainers.inboxes_are
    (λ box. (refl, senders))

pub make_drainers-requires-clause-subjects : goal.make_drainers-requires-clause-subjects
make_drainers-requires-clause-subjects g c =
    let config = c.args.config.now in
    let opened = c.requires.boxes.1 in
    let replies = inboxes-count _ _ _ _ _ _ opened.replies in
    let drainers = inboxes-count _ _ _ _ _ _ opened.drainers in
    let desks = made-count _ _ _ c.in_ok-make_desks.ensures.desks in
    let enough : length (into_iter_items c.args.boxes.now.drainers.inboxes) + c.make_desks.new.desks.len ≤ desk_count config + config.drainers =
    omega (arith, replies, drainers, desks, c.make_desks.new.desks.ok) in
    rows-left _ _ _ _ _ _ opened.subjects.rows_are c.in_ok-make_desks.ensures.subjects enough

pub make_drainers-requires-clause-none : goal.make_drainers-requires-clause-none
make_drainers-requires-clause-none g c = c.requires.rooms.no_drainers

pub make_drainers-requires-clause-room : goal.make_drainers-requires-clause-room
make_drainers-requires-clause-room g c =
    let drainers = inboxes-count _ _ _ _ _ _ c.requires.boxes.1.drainers in
    omega (arith, drainers, c.requires.rooms.drainers_fit)

pub returns-clause-wired : goal.returns-clause-wired
returns-clause-wired g c =
    let config = c.args.config.now in
    let w = c.requires.boxes.0 in
    let opened = c.requires.boxes.1 in
    let hubs = subst (AreHubsOf config.subjects.items) (sym c.into_iter-hubs.ensures.rest) c.in_ok-hubs.ensures.hubs in
    let inboxes = inboxes-count _ _ _ _ _ _ opened.subjects in
    let replies = inboxes-count _ _ _ _ _ _ opened.replies in
    let pumps = pumps-count _ _ _ _ _ hubs inboxes c.in_ok-make_pumps.ensures.pumps in
    let desks = made-count _ _ _ c.in_ok-make_desks.ensures.desks in
    let callers : desk_count config + config.drainers ≡ length w.replies + length w.drainers = omega (arith, opened.replies.count_is, opened.drainers.count_is) in
    let pumps_done : c.make_pumps.new.pumps.len ≡ length w.subjects = omega (arith, pumps, c.make_pumps.new.pumps.ok, opened.subjects.count_is) in
    let desks_done : c.make_desks.new.desks.len ≡ length w.replies = omega (arith, desks, replies, c.make_desks.new.desks.ok, opened.replies.count_is) in (
      w,
      into_iter_items c.into_iter-hubs.result,
      record {
        boxes = boxes-are config w c.args.boxes.now opened;
        hubs_are = hubs;
        pumps_are = pumps-wired w _ _ _ _ _ _ _ _ callers opened.subjects.inboxes_are opened.drainers.rows_are opened.replies.rows_are c.in_ok-make_pumps.ensures.pumps;
        drainers_are =
            drainers-wired w _ _ _ _ _ _ _ c.args.keeps (ap (λ (n : ℕ). n + 1) (sym opened.subjects.count_is)) desks_done opened.drainers.inboxes_are opened.subjects.rows_are
            c.in_ok-make_desks.ensures.subjects c.in_ok-make_drainers.ensures.drainers;
        leaves_are = leaves-wired w _ _ _ _ _ pumps_done opened.drainers.rows_are c.in_ok-make_pumps.ensures.drainers c.put_ports.ensures.ports;
        desks_are = desks-wired w _ _ _ _ _ (sym opened.subjects.count_is) opened.replies.inboxes_are opened.subjects.rows_are c.in_ok-make_desks.ensures.desks;
      },
    )

pub returns-in_err-hubs-clause-fault : goal.returns-in_err-hubs-clause-fault
returns-in_err-hubs-clause-fault g c =
    let p = err_from_is_err_and c.from_residual.result c.from_residual.ensures.1 in
    let config = c.args.config.now in
    rw (p.1, p.2) (memory-below config c.in_err-hubs.field-0.0 Pump (length config.subjects.items) (omega arith) c.in_err-hubs.ensures.fault)

pub returns-in_err-make_pumps-clause-fault : goal.returns-in_err-make_pumps-clause-fault
returns-in_err-make_pumps-clause-fault g c =
    let p = err_from_is_err_and c.from_residual-in_err-make_pumps.result c.from_residual-in_err-make_pumps.ensures.1 in
    let count = inboxes-count _ _ _ _ _ _ c.requires.boxes.1.subjects in
    rw (p.1, p.2) (memory-for c.args.config.now c.in_err-make_pumps.field-0.0 Pump _ (omega (arith, c.in_err-make_pumps.ensures.fewer, count)) c.in_err-make_pumps.ensures.fault)

pub returns-in_err-make_desks-clause-fault : goal.returns-in_err-make_desks-clause-fault
returns-in_err-make_desks-clause-fault g c =
    let p = err_from_is_err_and c.from_residual-in_err-make_desks.result c.from_residual-in_err-make_desks.ensures.1 in
    let count = inboxes-count _ _ _ _ _ _ c.requires.boxes.1.replies in
    rw (p.1, p.2) (memory-for c.args.config.now c.in_err-make_desks.field-0.0 Worker _ (omega (arith, c.in_err-make_desks.ensures.fewer, count)) c.in_err-make_desks.ensures.fault)

pub returns-in_err-make_drainers-clause-fault : goal.returns-in_err-make_drainers-clause-fault
returns-in_err-make_drainers-clause-fault g c =
    let p = err_from_is_err_and c.from_residual-in_err-make_drainers.result c.from_residual-in_err-make_drainers.ensures.1 in
    let count = inboxes-count _ _ _ _ _ _ c.requires.boxes.1.drainers in
    rw (p.1, p.2) (memory-for c.args.config.now c.in_err-make_drainers.field-0.0 Drainer _ (omega (arith, c.in_err-make_drainers.ensures.fewer, count)) c.in_err-make_drainers.ensures.fault)
