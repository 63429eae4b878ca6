-- What comes of each step: a line is carried out, a long one is refused, and each end is told with the writer back.
use Rattle.std.proofs.Common.{◌<◌, ◌∙◌, ap, length, Result, refl, subst, sym, inl, inr}
use Rattle.rx_proto.specs.Reading.{session_read}
use Rattle.rx_proto.specs.declared.line_error.BadLine.TheVariants as bad
use Rattle.rx_proto.specs.declared.command.Command.{Command}
use Rattle.rx_proto.specs.declared.line_error.BadLine.{BadLine}
use Rattle.rx_session.specs.Sessions.{Place, parties}
use Rattle.rx_lines.specs.Steps.{IsTold}
use Rattle.rx_session.specs.Turns.{Carries}
use Rattle.rx_lines.specs.declared.input_end.InputEnd.TheVariants as inputs
use Rattle.rx_lines.specs.declared.step.Step.TheVariants.{Line, Long, EndOfInput, ReadFault, TooManyReads}
use Rattle.rx_session.proofs.Answering.{asked_by-read, long_read, refused, spelled, steps_by, taken}
use Rattle.rx_lines.proofs.Stepping.{told-is_line}
use Rattle.rx_session.proofs.whole_session.turn.Goals as goal

pub read_line_without_lf-read-requires-clause-within : goal.read_line_without_lf-read-requires-clause-within
read_line_without_lf-read-requires-clause-within g c =
    let steps = steps_by (Line c.in-Line.len) (g.R.Read.remaining c.args.reader.now) (g.R.Read.remaining c.advance.new.reader) c.args.lines.now c.advance.new.self c.requires c.in-Line.ensures.advances in
    rw c.line.ensures (told-is_line _ _ _ _ c.advance.new.self.window c.in-Line.len steps.0).0

pub read_line_without_lf-read-requires-clause-no_lf : goal.read_line_without_lf-read-requires-clause-no_lf
read_line_without_lf-read-requires-clause-no_lf g c =
    let steps = steps_by (Line c.in-Line.len) (g.R.Read.remaining c.args.reader.now) (g.R.Read.remaining c.advance.new.reader) c.args.lines.now c.advance.new.self c.requires c.in-Line.ensures.advances in
    rw c.line.ensures (told-is_line _ _ _ _ c.advance.new.self.window c.in-Line.len steps.0).1

pub carry_out-requires : goal.carry_out-requires
carry_out-requires g c = spelled c.read_line_without_lf-read.result c.line.result.now c.read_line_without_lf-read.ensures

pub returns-in-Line : goal.returns-in-Line
returns-in-Line g c =
    let p = parties g.D.Desk.knows g.D.Desk.emits g.D.Desk.follows g.W.Write.contents in
    let steps = steps_by (Line c.in-Line.len) (g.R.Read.remaining c.args.reader.now) (g.R.Read.remaining c.advance.new.reader) c.args.lines.now c.advance.new.self c.requires c.in-Line.ensures.advances in
    let says : Result Command BadLine → Place g.row.D.Denot g.row.W.Denot → Type 0 = λ reading at. Carries p reading at c.carry_out.result c.carry_out.new.desk c.carry_out.new.version c.carry_out.new.outbox in
    inl (record {
      takes = taken _ _ _ _ (λ line. IsTold line c.in-Line.len c.advance.new.self.window) _
          (λ line told at is.
          subst (λ (reading : Result Command BadLine). says reading at)
          (sym (asked_by-read c.read_line_without_lf-read.result c.line.result.now c.read_line_without_lf-read.ensures) ∙ ap session_read (c.line.ensures ∙ told.bytes))
          (c.carry_out.ensures at is))
          steps.0;
      goes_on = steps.1;
    })

pub returns-in-Long : goal.returns-in-Long
returns-in-Long g c =
    let p = parties g.D.Desk.knows g.D.Desk.emits g.D.Desk.follows g.W.Write.contents in
    let steps = steps_by Long (g.R.Read.remaining c.args.reader.now) (g.R.Read.remaining c.advance.new.reader) c.args.lines.now c.advance.new.self c.requires c.in-Long.ensures.advances in
    inl (record {
      takes = taken _ _ _ _ (λ line. 1100 < length line) _
          (λ line long at is. refused p bad.Long (session_read line) at c.args.desk.now c.args.writer c.args.version.now c.args.outbox.now c.answer.new.outbox _ c.answer.result
          (long_read line long) refl is c.answer.ensures)
          steps.0;
      goes_on = steps.1;
    })

pub returns-in-EndOfInput : goal.returns-in-EndOfInput
returns-in-EndOfInput g c =
    let steps = steps_by EndOfInput (g.R.Read.remaining c.args.reader.now) (g.R.Read.remaining c.advance.new.reader) c.args.lines.now c.advance.new.self c.requires c.in-EndOfInput.ensures.advances in
    inr (record { none = steps.0; end = inputs.EndOfInput; input = steps.1; left = steps.2; over = refl; desk_is = refl })

pub returns-in-ReadFault : goal.returns-in-ReadFault
returns-in-ReadFault g c =
    let steps = steps_by ReadFault (g.R.Read.remaining c.args.reader.now) (g.R.Read.remaining c.advance.new.reader) c.args.lines.now c.advance.new.self c.requires c.in-ReadFault.ensures.advances in
    inr (record { none = steps.0; end = inputs.ReadFault; input = steps.1; left = tt; over = refl; desk_is = refl })

pub returns-in-TooManyReads : goal.returns-in-TooManyReads
returns-in-TooManyReads g c =
    let steps = steps_by TooManyReads (g.R.Read.remaining c.args.reader.now) (g.R.Read.remaining c.advance.new.reader) c.args.lines.now c.advance.new.self c.requires c.in-TooManyReads.ensures.advances in
    inr (record { none = steps.0; end = inputs.TooManyReads; input = steps.1; left = tt; over = refl; desk_is = refl })
