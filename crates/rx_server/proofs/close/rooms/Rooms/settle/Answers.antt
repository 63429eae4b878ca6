use Rattle.std.proofs.Common.{◌++◌, sym, subst, length}
use Rattle.std.proofs.lemmas.Result.{err_from_is_err_and}
use Rattle.rx_server.specs.Rooms.{HoldBoxes}
use Rattle.rx_server.proofs.Settled.{boxes-fit, drainers-fit, have-settled, replies-fit, subjects-fit}
use Rattle.rx_server.proofs.Unsettling.{first-box, settled-so, twice}
use Rattle.rx_server.proofs.close.rooms.Rooms.settle.Goals as goal

pub settle-requires-clause-room : goal.settle-requires-clause-room
settle-requires-clause-room g c =
    let parts = c.in_ok-all.all.returned in
    subst (HoldBoxes (length parts.subjects.items) (length parts.drainers.items) (length parts.replies.items)) (sym c.in_ok-all.ensures.settled)
    (boxes-fit c.requires.0 c.args.self c.args.ended.items c.requires.1 parts.subjects.items parts.drainers.items parts.replies.items c.in_ok-all.ensures.came)

pub settle-requires-clause-subjects : goal.settle-requires-clause-subjects
settle-requires-clause-subjects g c =
    let parts = c.in_ok-all.all.returned in
    subjects-fit c.requires.0 c.args.self c.args.ended.items c.requires.1 parts.subjects.items parts.drainers.items parts.replies.items c.in_ok-all.ensures.came

pub settle-requires-clause-drainers : goal.settle-requires-clause-drainers
settle-requires-clause-drainers g c =
    let parts = c.in_ok-all.all.returned in
    drainers-fit c.requires.0 c.args.self c.args.ended.items c.requires.1 parts.subjects.items parts.drainers.items parts.replies.items c.in_ok-all.ensures.came

pub settle-requires-clause-replies : goal.settle-requires-clause-replies
settle-requires-clause-replies g c =
    let parts = c.in_ok-all.all.returned in
    replies-fit c.requires.0 c.args.self c.args.ended.items c.requires.1 parts.subjects.items parts.drainers.items parts.replies.items c.in_ok-all.ensures.came

-- a desk came back twice
pub returns-in_err-all-clause-fault : goal.returns-in_err-all-clause-fault
returns-in_err-all-clause-fault g c =
    let p = err_from_is_err_and c.from_residual.result c.from_residual.ensures.1 in
    rw (p.1, p.2)
    (twice _ c.args.self.leaves.items (c.args.ended.items ++ c.args.self.desks.items) c.args.self.pumps.items c.args.self.drainers.items c.in_err-all.field-0.0 c.in_err-all.ensures.twice)

-- a box is the first that cannot settle
pub returns-in_err-boxes-clause-fault : goal.returns-in_err-boxes-clause-fault
returns-in_err-boxes-clause-fault g c =
    let parts = c.in_ok-all.all.returned in
    let p = err_from_is_err_and c.from_residual-in_err-boxes.result c.from_residual-in_err-boxes.ensures.1 in
    rw (p.1, p.2)
    (first-box c.requires.0 c.args.self c.args.ended.items c.requires.1 parts.subjects.items parts.drainers.items parts.replies.items c.in_ok-all.ensures.came c.in_err-boxes.field-0.0 c.in_err-boxes.ensures.fault)

pub returns-clause-settled : goal.returns-clause-settled
returns-clause-settled g c =
    let parts = c.in_ok-all.all.returned in
    let settled = c.in_ok-boxes.ensures in
    have-settled c.requires.0 c.args.self c.args.ended.items c.requires.1 parts.subjects.items parts.drainers.items parts.replies.items c.in_ok-all.ensures.came
    c.in_ok-boxes.boxes settled.subjects settled.drainers settled.replies

pub returns-clause-by_calls : goal.returns-clause-by_calls
returns-clause-by_calls g c =
    let parts = c.in_ok-all.all.returned in
    settled-so c.requires.0 c.args.self c.args.ended.items c.requires.1 parts.subjects.items parts.drainers.items parts.replies.items c.in_ok-all.ensures.came
    c.in_ok-boxes.boxes.subjects.items c.in_ok-boxes.ensures.subjects
