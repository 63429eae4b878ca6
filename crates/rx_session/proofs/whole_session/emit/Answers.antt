use Rattle.rx_session.specs.Sessions.{parties}
use Rattle.rx_session.proofs.Answering.{emitted}
use Rattle.rx_session.proofs.whole_session.emit.Goals as goal

pub returns : goal.returns
returns g c at version is =
    let p = parties g.D.Desk.knows g.D.Desk.emits g.D.Desk.follows g.W.Write.contents in
    emitted p at c.args.name.now c.args.note c.args.desk.now c.emit-response.new.self c.args.writer version c.args.outbox.now c.answer.new.outbox c.emit-response.result c.answer.result
    is c.emit-response.ensures c.answer.ensures
