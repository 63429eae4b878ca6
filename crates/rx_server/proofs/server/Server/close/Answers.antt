use Rattle.std.proofs.Common.{◌∙◌, ◌++◌, ◌<◌, sym, ap, subst, List, Vec, map, length, length-append, inl, IfErr, IfOk, arith}
use Rattle.std.proofs.lemmas.List.{length-map}
use Rattle.std.proofs.lemmas.Result.{err_from_is_err_and}
use Rattle.std.proofs.lemmas.Slice.Zip.{AllZip-long}
use Rattle.std.specs.List.{All, AllZip}
use Rattle.std.specs.Vec.Iter.{into_iter_items}
use Rattle.rx_mailbox.specs.Boxes.{all_told}
use Rattle.rx_pump.specs.Desks.{DeskView}
use Rattle.rx_pump.specs.Pumps.{PumpView}
use Rattle.rx_pump.specs.declared.call_desk.ended_desk.EndedDesk.{EndedDesk}
use Rattle.rx_mailbox.specs.PortRows.{with_bye}
use Rattle.rx_pump.specs.Serving as pump_serving
use Rattle.rx_mailbox.proofs.Told.{told-byes, told-length}
use Rattle.rx_drain.specs.Drainers.{DrainerView}
use Rattle.rx_drain.specs.Serving as drainer_serving
use Rattle.rx_server.specs.declared.close.returned.Returned.{Returned}
use Rattle.rx_server.specs.declared.close.close_fault.CloseFault.{CloseFault}
use Rattle.rx_server.specs.Returning.{HaveSettledSo, Unsettles}
use Rattle.rx_server.specs.Servers.{EndsEach, HaveSettled, IsDeskOf, IsFirst}
use Rattle.rx_server.proofs.Closed.{settled-or-not}
use Rattle.rx_server.proofs.Ending.{desks-many, has-left}
use Rattle.rx_server.proofs.Joining.{leaves-fit}
use Rattle.rx_server.proofs.Told.{open-came}
use Rattle.rx_server.proofs.Whole.{desks-own}
use Rattle.rx_server.proofs.server.Server.close.Goals as goal

pub finish_all-told-requires : goal.finish_all-told-requires
finish_all-told-requires g c =
    let parts = c.into_parts-running in
    let whole = parts.ensures.whole in
    let leaves = ap length parts.ensures.leaves ∙ leaves-fit whole.wiring whole.keeps c.args.self.leaves c.args.self.drainers whole.wired.leaves_are whole.wired.drainers_are in
    omega (arith, leaves, parts.ensures.rooms.leaves_fit, ap length parts.ensures.rooms.no_leaves, parts.result.1.ok, parts.result.3.leaves.ok)

pub settle-requires : goal.settle-requires
settle-requires g c =
    let parts = c.into_parts-running in
    let self = c.args.self in
    let whole = parts.ensures.whole in
    let start = parts.result.3 in
    let left = c.join.new.rooms in
    let others = c.in_ok-join.ensures.others in
    let more = c.finish_desks.ensures.own self.made (subst (All (IsDeskOf self.made)) (sym parts.ensures.desks) (desks-own self whole)) in (
      whole.wiring,
      has-left g.S.Sink.acts self whole start left c.args.ended.items more.0 parts.ensures.rooms others.returned others.settled others.subjects others.put_away
          (ap (λ (list : Vec _ _). list.items) others.leaves ∙ c.in-Ok.ensures.ended.0
          ∙ ap (λ (l : List _). start.leaves.items ++ l) (told-byes parts.result.1.items)
          ∙ ap (λ (l : List _). l ++ map with_bye parts.result.1.items) parts.ensures.rooms.no_leaves ∙ ap (map with_bye) parts.ensures.leaves)
          (ap (λ (list : Vec _ _). list.items) others.desks ∙ more.1 ∙ ap (λ (l : List _). l ++ more.0) parts.ensures.kept)
          more.2 c.requires
          (subst (λ (pumps : List (PumpView _)). AllZip pump_serving.HasPumped pumps left.pumps.items) parts.ensures.pumps c.in_ok-join.ensures.pumped)
          (subst (λ (drainers : List (DrainerView _ _)). AllZip (drainer_serving.HasDrained g.S.Sink.acts) drainers left.drainers.items) parts.ensures.drainers c.in_ok-join.ensures.drained),
    )

pub returns : goal.returns
returns g c =
    let parts = c.into_parts-running in
    let self = c.args.self in
    let whole = parts.ensures.whole in
    let left = c.join.new.rooms in
    let others = c.in_ok-join.ensures.others in
    let empty = parts.ensures.rooms.nothing_came in
    let more = c.finish_desks.ensures.own self.made (subst (All (IsDeskOf self.made)) (sym parts.ensures.desks) (desks-own self whole)) in
    let leaves =
    ap (λ (list : Vec _ _). list.items) others.leaves ∙ c.in-Ok.ensures.ended.0
    ∙ ap (λ (l : List _). parts.result.3.leaves.items ++ l) (told-byes parts.result.1.items)
    ∙ ap (λ (l : List _). l ++ map with_bye parts.result.1.items) parts.ensures.rooms.no_leaves ∙ ap (map with_bye) parts.ensures.leaves in
    let desks = ap (λ (list : Vec _ _). list.items) others.desks ∙ more.1 ∙ ap (λ (l : List _). l ++ more.0) parts.ensures.kept in
    let by_desks =
    subst (λ (ds : List (DeskView _)). EndsEach ds self.kept (self.kept ++ more.0)) parts.ensures.desks
    (subst (λ (l : List (EndedDesk _)). EndsEach (into_iter_items parts.result.2) self.kept l) (more.1 ∙ ap (λ (l : List _). l ++ more.0) parts.ensures.kept)
    (subst (λ (l : List (EndedDesk _)). EndsEach (into_iter_items parts.result.2) l c.finish_desks.new.ended.items) parts.ensures.kept c.finish_desks.ensures.each)) in
    settled-or-not g.S.Sink.acts self whole left.pumps.items left.drainers.items c.args.ended.items more.0 c.requires
    (subst (λ (pumps : List (PumpView _)). AllZip pump_serving.HasPumped pumps left.pumps.items) parts.ensures.pumps c.in_ok-join.ensures.pumped)
    (subst (λ (drainers : List (DrainerView _ _)). AllZip (drainer_serving.HasDrained g.S.Sink.acts) drainers left.drainers.items) parts.ensures.drainers c.in_ok-join.ensures.drained)
    c.settle.result (length left.returned.replies.items) more.2 by_desks
    (ap (λ (r : Returned _). length r.replies.items) others.returned ∙ empty.reply_count ∙ desks-many g.S.Sink.acts self whole)
    (subst (λ (l : List _). IfOk c.settle.result (λ report. HaveSettled report.boxes l (c.args.ended.items ++ (self.kept ++ more.0)) left.pumps.items left.drainers.items)) leaves
    (subst (λ (l : List _). IfOk c.settle.result (λ report. HaveSettled report.boxes left.leaves.items (c.args.ended.items ++ l) left.pumps.items left.drainers.items)) desks c.settle.ensures.settled))
    (subst (λ (l : List _). IfOk c.settle.result (λ report. HaveSettledSo (length left.returned.replies.items) l (c.args.ended.items ++ (self.kept ++ more.0)) left.pumps.items left.drainers.items report.boxes.subjects.items)) leaves
    (subst (λ (l : List _). IfOk c.settle.result (λ report. HaveSettledSo (length left.returned.replies.items) left.leaves.items (c.args.ended.items ++ l) left.pumps.items left.drainers.items report.boxes.subjects.items)) desks c.settle.ensures.by_calls))
    c.settle.ensures.reports
    (subst (λ (l : List _). IfErr c.settle.result (Unsettles (length left.returned.replies.items) l (c.args.ended.items ++ (self.kept ++ more.0)) left.pumps.items left.drainers.items)) leaves
    (subst (λ (l : List _). IfErr c.settle.result (Unsettles (length left.returned.replies.items) left.leaves.items (c.args.ended.items ++ l) left.pumps.items left.drainers.items)) desks c.settle.ensures.fault))

-- a port that did not end is left
pub unreachable-requires : goal.unreachable-requires
unreachable-requires g c = omega (arith, c.in_default.ensures.cases.0, c.in-Err.ensures.ended.0.some, told-length c.finish_all-told.new.ports.items, c.finish_all-told.new.ports.ok.0)

-- and as many drainers ended as there are ports that tell them to leave
pub unreachable-requires-in_default-pop : goal.unreachable-requires-in_default-pop
unreachable-requires-in_default-pop g c =
    let parts = c.into_parts-running in
    let whole = parts.ensures.whole in
    let self = c.args.self in
    let some = c.in-Err.ensures.ended.0 in
    let leaves = ap length parts.ensures.leaves ∙ leaves-fit whole.wiring whole.keeps self.leaves self.drainers whole.wired.leaves_are whole.wired.drainers_are in
    let drained = subst (λ (drainers : List (DrainerView _ _)). AllZip (drainer_serving.HasDrained g.S.Sink.acts) drainers c.join.new.rooms.drainers.items) parts.ensures.drainers c.in_ok-join.ensures.drained in
    let many = AllZip-long (drainer_serving.HasDrained g.S.Sink.acts) self.drainers c.join.new.rooms.drainers.items drained in
    let told = ap length some.parts ∙ told-length parts.result.1.items in
    omega (arith, c.in_default-pop.ensures.cases.0, some.some, told, length-append some.done (all_told c.finish_all-told.new.ports.items), leaves, many, c.join.new.rooms.drainers.ok.0)

-- that port is of the box of the last drainer, which received its Bye
pub show_open-requires : goal.show_open-requires
show_open-requires g c =
    let parts = c.into_parts-running in
    let self = c.args.self in
    let some = c.in-Err.ensures.ended.0 in
    let ends = c.join.new.rooms.drainers.items in
    let drained = subst (λ (drainers : List (DrainerView _ _)). AllZip (drainer_serving.HasDrained g.S.Sink.acts) drainers ends) parts.ensures.drainers c.in_ok-join.ensures.drained in
    (open-came g.S.Sink.acts self parts.ensures.whole ends drained some.done c.finish_all-told.new.ports.items c.pop.new.self.items c.in-Some.port c.pop-in-Err.new.self.items c.in-Some-pop.drainer
    c.in-Some.ensures.items (some.parts ∙ ap all_told parts.ensures.leaves) c.in-Some-pop.ensures.items).0

pub unreachable-requires-in-Err : goal.unreachable-requires-in-Err
unreachable-requires-in-Err g c =
    let parts = c.into_parts-running in
    let self = c.args.self in
    let some = c.in-Err.ensures.ended.0 in
    let ends = c.join.new.rooms.drainers.items in
    let drained = subst (λ (drainers : List (DrainerView _ _)). AllZip (drainer_serving.HasDrained g.S.Sink.acts) drainers ends) parts.ensures.drainers c.in_ok-join.ensures.drained in
    c.show_open.ensures.open
    (open-came g.S.Sink.acts self parts.ensures.whole ends drained some.done c.finish_all-told.new.ports.items c.pop.new.self.items c.in-Some.port c.pop-in-Err.new.self.items c.in-Some-pop.drainer
    c.in-Some.ensures.items (some.parts ∙ ap all_told parts.ensures.leaves) c.in-Some-pop.ensures.items).1

pub returns-in_err-join : goal.returns-in_err-join
returns-in_err-join g c =
    let parts = c.into_parts-running in
    let fault = c.in_err-join.field-0.0 in
    let p = err_from_is_err_and c.from_residual.result c.from_residual.ensures.1 in
    rw (p.1, p.2)
    (inl (
      c.in_err-join.ensures.failed.0,
      subst (λ (pumps : List (PumpView _)). IsFirst g.S.Sink.acts pumps c.args.self.drainers fault.thread fault.index) parts.ensures.pumps
          (subst (λ (drainers : List (DrainerView _ _)). IsFirst g.S.Sink.acts parts.result.0.pumps.items drainers fault.thread fault.index) parts.ensures.drainers c.in_err-join.ensures.failed.1),
    ))
