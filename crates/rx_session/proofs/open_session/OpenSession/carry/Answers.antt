-- The item of a line is begun, or all that was begun is answered first: then QUIT is answered by the session itself, a long line is
-- refused, and every other is carried out as ever.
use Rattle.std.proofs.Common.{◌∙◌, ap, true, Result, refl, subst, sym, inl, inr}
use Rattle.rx_proto.specs.Reading.{session_read}
use Rattle.rx_proto.specs.declared.command.Command.{Command}
use Rattle.rx_proto.specs.declared.line_error.BadLine.{BadLine}
use Rattle.rx_proto.specs.declared.line_error.BadLine.TheVariants as bad
use Rattle.rx_session.specs.Gathering.{Begins}
use Rattle.rx_session.specs.Sessions.{parties}
use Rattle.rx_session.specs.Turns.{Carries, asked_by, hands}
use Rattle.rx_session.proofs.Answering.{asked_by-read, long_read, refused, spelled}
use Rattle.rx_session.proofs.ByTurns.{quit_told}
use Rattle.rx_session.proofs.Gathering.{answered_rest}
use Rattle.rx_session.proofs.open_session.OpenSession.carry.Goals as goal

pub begin_line-requires-clause-spelled : goal.begin_line-requires-clause-spelled
begin_line-requires-clause-spelled g c = spelled c.read_line_without_lf-read.result c.line.result.now c.read_line_without_lf-read.ensures

pub carry_out-requires : goal.carry_out-requires
carry_out-requires g c = spelled c.read_line_without_lf-read.result c.line.result.now c.read_line_without_lf-read.ensures

pub returns-then-begin_line-clause-carries : goal.returns-then-begin_line-clause-carries
returns-then-begin_line-clause-carries g c line at notes is_line count stands =
    let p = parties g.D.Desk.knows g.D.Desk.emits g.D.Desk.follows g.W.Write.contents in
    let said = rw c.in-Line.is at is_line in
    let asked = asked_by-read c.read_line_without_lf-read.result c.line.result.now c.read_line_without_lf-read.ensures in
    let says : Result Command BadLine → Type 0 =
    λ reading. Begins p g.D.Desk.waits true reading at notes (hands c.begin_line.new.desk c.args.writer c.args.self.now.version c.begin_line.new.outbox) c.begin_line.new.begun in
    inl (
      c.args.writer,
      refl,
      c.requires.quits,
      subst says (sym asked ∙ ap session_read (c.line.ensures ∙ said.bytes)) (c.if-begin_line.ensures.begins at notes c.args.writer c.args.self.now.version count stands),
    )

pub returns-else-is_quit-clause-carries : goal.returns-else-is_quit-clause-carries
returns-else-is_quit-clause-carries g c line at notes is_line count stands =
    let p = parties g.D.Desk.knows g.D.Desk.emits g.D.Desk.follows g.W.Write.contents in
    let said = rw c.in-Line.is at is_line in
    let a = answered_rest p g.D.Desk.waits _ at notes _ _ c.begin_line.new.begun (c.if-begin_line.ensures.begins at notes c.args.writer c.args.self.now.version count stands)
    (λ now left. c.answer_all.ensures.answered now left c.args.writer c.args.self.now.version) in
    let says : Result Command BadLine → Type 0 = λ reading. Carries p reading a.0 c.carry_out.result c.carry_out.new.desk c.carry_out.new.version c.carry_out.new.outbox in
    let asked = asked_by-read c.read_line_without_lf-read.result c.line.result.now c.read_line_without_lf-read.ensures in
    inr (record { last = a.0; emitted = a.1; carries = rw c.requires.quits (subst says (sym asked ∙ ap session_read (c.line.ensures ∙ said.bytes)) (c.carry_out.ensures a.0 a.2)); count = c.answer_all.ensures.none })

pub returns-then-is_quit-clause-carries : goal.returns-then-is_quit-clause-carries
returns-then-is_quit-clause-carries g c line at notes is_line count stands =
    let p = parties g.D.Desk.knows g.D.Desk.emits g.D.Desk.follows g.W.Write.contents in
    let said = rw c.in-Line.is at is_line in
    let a = answered_rest p g.D.Desk.waits _ at notes _ _ c.begin_line.new.begun (c.if-begin_line.ensures.begins at notes c.args.writer c.args.self.now.version count stands)
    (λ now left. c.answer_all.ensures.answered now left c.args.writer c.args.self.now.version) in
    let asked = asked_by-read c.read_line_without_lf-read.result c.line.result.now c.read_line_without_lf-read.ensures ∙ ap asked_by (c.is_quit.ensures c.if-is_quit.true) in
    inr (record {
      last = a.0;
      emitted = a.1;
      carries = quit_told p line a.0 c.answer_all.new.desk c.args.writer c.args.self.now.version c.answer_all.new.outbox c.answer.new.outbox c.answer.result
          (ap session_read (sym (c.line.ensures ∙ said.bytes)) ∙ asked) a.2 c.answer.ensures;
      count = c.answer_all.ensures.none;
    })

pub returns-in-Long-clause-carries : goal.returns-in-Long-clause-carries
returns-in-Long-clause-carries g c line at notes is_line count stands =
    let p = parties g.D.Desk.knows g.D.Desk.emits g.D.Desk.follows g.W.Write.contents in
    let long = rw c.in-Long.is at is_line in
    let a = c.answer_all-in-Long.ensures.answered at notes c.args.writer c.args.self.now.version count stands in
    inr (record {
      last = a.0;
      emitted = a.1;
      carries = rw c.requires.quits (refused p bad.Long (session_read line) a.0 c.answer_all-in-Long.new.desk c.args.writer c.args.self.now.version c.answer_all-in-Long.new.outbox c.answer-in-Long.new.outbox _ c.answer-in-Long.result
          (long_read line long) refl a.2 c.answer-in-Long.ensures);
      count = c.answer_all-in-Long.ensures.none;
    })
