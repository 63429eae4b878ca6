-- A line that has a meaning is carried out, another one is refused.
use Rattle.std.proofs.Common.{ap}
use Rattle.rx_session.specs.Sessions.{parties}
use Rattle.rx_session.specs.Turns.{asked_by}
use Rattle.rx_session.proofs.Answering.{refused}
use Rattle.rx_session.proofs.whole_session.carry_out.Goals as goal

pub returns-in-Ok : goal.returns-in-Ok
returns-in-Ok g c at is = rw c.in-Ok.is (c.carry_out_line.ensures at is)

pub returns-in-Err : goal.returns-in-Err
returns-in-Err g c at is =
    let p = parties g.D.Desk.knows g.D.Desk.emits g.D.Desk.follows g.W.Write.contents in
    refused p c.in-Err.fault (asked_by c.args.read.now) at c.args.desk.now c.args.writer c.args.version.now c.args.outbox.now c.answer.new.outbox c.refused.result c.answer.result
    (ap asked_by c.in-Err.is) c.refused.ensures is c.answer.ensures
