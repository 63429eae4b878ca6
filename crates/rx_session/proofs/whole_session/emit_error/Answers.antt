-- The error is emitted, or the word is told by which its text is refused.
use Rattle.std.proofs.Common.{Ok, inl}
use Rattle.rx_note.specs.declared.note.Note.TheVariants.{Failed}
use Rattle.rx_proto.specs.declared.command.Command.TheVariants.{Fail}
use Rattle.rx_session.specs.Sessions.{parties, Emits, Goes}
use Rattle.rx_session.proofs.Answering.{comes_by, no_text}
use Rattle.rx_session.proofs.whole_session.emit_error.Goals as goal

pub returns-in-Ok : goal.returns-in-Ok
returns-in-Ok g c at version is =
    let p = parties g.D.Desk.knows g.D.Desk.emits g.D.Desk.follows g.W.Write.contents in
    let name = c.args.name.now in
    let text = c.args.text.now in
    let emits = rw c.in-Ok.ensures at c.emit.ensures in
    comes_by p (Emits p at name (Failed text)) (Goes p (Ok (Fail name text)) at) c.emit.result c.emit.new.desk version c.emit.new.outbox (λ after e. inl e) (emits at version is)

pub returns-in-Err : goal.returns-in-Err
returns-in-Err g c at version is =
    let p = parties g.D.Desk.knows g.D.Desk.emits g.D.Desk.follows g.W.Write.contents in
    no_text p at c.args.name.now (Failed c.args.text.now) c.args.desk.now c.args.writer version c.args.outbox.now c.answer.new.outbox c.in-Err.word c.answer.result
    is c.in-Err.ensures c.answer.ensures
