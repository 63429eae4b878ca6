-- What each line comes to, from the place where the session stands.
use Rattle.std.proofs.Common.{◌≡◌, Err, Ok, refl, inl, inr}
use Rattle.rx_note.specs.declared.note.Note.TheVariants.{Completed}
use Rattle.rx_proto.specs.Reading.{in_session, meaning_of}
use Rattle.rx_proto.specs.declared.command.Command.TheVariants.{Pub, End, Fail, Hello}
use Rattle.rx_proto.specs.declared.line_error.BadLine.TheVariants as bad
use Rattle.rx_proto.specs.declared.response.Response.TheVariants.{Refused}
use Rattle.rx_proto.specs.declared.word.Word.TheVariants as words
use Rattle.rx_session.specs.Sessions.{parties, Emits, Goes}
use Rattle.rx_session.proofs.Answering.{carries, greeted_by, refused, quits}
use Rattle.rx_session.proofs.whole_session.carry_out_line.Goals as goal

pub returns-in-Pub : goal.returns-in-Pub
returns-in-Pub g c at is =
    let p = parties g.D.Desk.knows g.D.Desk.emits g.D.Desk.follows g.W.Write.contents in
    let command = Pub c.in-Pub.name.now c.in-Pub.text.now in
    let says = rw c.of.ensures at c.emit_item.ensures in
    rw c.in-Pub.is (carries p (Ok command) at (Goes p (Ok command) at) c.emit_item.result c.emit_item.new.desk c.args.version.now c.emit_item.new.outbox (λ after e. e) (says at c.args.version.now is))

pub returns-in-End : goal.returns-in-End
returns-in-End g c at is =
    let p = parties g.D.Desk.knows g.D.Desk.emits g.D.Desk.follows g.W.Write.contents in
    let name = c.in-End.name.now in
    let says = rw c.of-in-End.ensures at c.emit.ensures in
    rw c.in-End.is (carries p (Ok (End name)) at (Emits p at name Completed) c.emit.result c.emit.new.desk c.args.version.now c.emit.new.outbox (λ after e. e) (says at c.args.version.now is))

pub returns-in-Fail : goal.returns-in-Fail
returns-in-Fail g c at is =
    let p = parties g.D.Desk.knows g.D.Desk.emits g.D.Desk.follows g.W.Write.contents in
    let command = Fail c.in-Fail.name.now c.in-Fail.text.now in
    let says = rw c.of-in-Fail.ensures at c.emit_error.ensures in
    rw c.in-Fail.is (carries p (Ok command) at (Goes p (Ok command) at) c.emit_error.result c.emit_error.new.desk c.args.version.now c.emit_error.new.outbox (λ after e. e) (says at c.args.version.now is))

pub returns-in-Hello : goal.returns-in-Hello
returns-in-Hello g c at is =
    let p = parties g.D.Desk.knows g.D.Desk.emits g.D.Desk.follows g.W.Write.contents in
    let number = c.in-Hello.number in
    let command = Hello number in
    rw c.in-Hello.is (carries p (Ok command) at (Goes p (Ok command) at) c.answer.result c.args.desk.now c.hello.new.self c.answer.new.outbox (λ after e. e)
    (greeted_by p at number c.args.desk.now c.args.writer c.args.version.now c.hello.new.self c.args.outbox.now c.answer.new.outbox c.hello.result c.answer.result
    is c.hello.ensures.response c.hello.ensures.version c.answer.ensures))

pub returns-in-Quit : goal.returns-in-Quit
returns-in-Quit g c at is =
    let p = parties g.D.Desk.knows g.D.Desk.emits g.D.Desk.follows g.W.Write.contents in
    rw c.in-Quit.is (quits p at c.args.desk.now c.args.writer c.args.version.now c.args.outbox.now c.quit.new.outbox c.quit.result is c.quit.ensures)

pub returns-in-At : goal.returns-in-At
returns-in-At g c at is =
    let p = parties g.D.Desk.knows g.D.Desk.emits g.D.Desk.follows g.W.Write.contents in
    let unread : in_session (meaning_of c.args.line.now) ≡ Err bad.Syntax =
    elim c.in-At.is [
      | inl moment ↦ rw moment.1 refl
      | inr other ↦ elim other [
        | inl join ↦ rw join.3 refl
        | inr more ↦ elim more [
          | inl request ↦ rw request.3 refl
          | inr dispose ↦ rw dispose.2 refl
        ]
      ]
    ] in
    refused p bad.Syntax (in_session (meaning_of c.args.line.now)) at c.args.desk.now c.args.writer c.args.version.now c.args.outbox.now c.answer-in-At.new.outbox (Refused words.Syntax) c.answer-in-At.result
    unread refl is c.answer-in-At.ensures
