-- The desk is handed the writer once all is written. Where that faulted, the session ends.
use Rattle.std.proofs.Common.{Ok}
use Rattle.rx_proto.specs.declared.command.Command.TheVariants.{Sub}
use Rattle.rx_session.specs.Sessions.{parties}
use Rattle.rx_session.proofs.Answering.{came_back, flush_faulted, handed_over}
use Rattle.rx_session.proofs.whole_session.follow.Goals as goal

pub returns-in-Back : goal.returns-in-Back
returns-in-Back g c at is =
    let p = parties g.D.Desk.knows g.D.Desk.emits g.D.Desk.follows g.W.Write.contents in
    came_back p at c.args.name.now c.args.policy c.args.desk.now c.follow.new.self c.args.writer c.flush.new.writer c.in-Back.back c.args.version c.args.outbox.now c.flush.new.self c.answer.new.outbox
    c.in-Back.response c.answer.result is c.in-Ok.ensures.written c.flush.ensures.empty c.in-Back.ensures c.answer.ensures

pub returns-in-Err : goal.returns-in-Err
returns-in-Err g c at is =
    let p = parties g.D.Desk.knows g.D.Desk.emits g.D.Desk.follows g.W.Write.contents in
    flush_faulted p (Ok (Sub c.args.name.now c.args.policy)) at c.args.desk.now c.args.writer c.flush.new.writer c.args.version c.args.outbox.now c.flush.new.self is c.in-Err.ensures.written

pub returns-in-Taken : goal.returns-in-Taken
returns-in-Taken g c at is =
    let p = parties g.D.Desk.knows g.D.Desk.emits g.D.Desk.follows g.W.Write.contents in
    handed_over p at c.args.name.now c.args.policy c.args.desk.now c.follow.new.self c.args.writer c.flush.new.writer c.args.version c.args.outbox.now c.flush.new.self
    is c.in-Ok.ensures.written c.in-Taken.ensures
