use Rattle.std.proofs.Common.{◌<◌, ℕ, List, length, ap, sym, ◌∙◌, refl, Err, None}
use Rattle.std.proofs.lemmas.Result.{IfOk-weaker}
use Rattle.rx_script.specs.Audits.{state_in}
use Rattle.rx_proto.specs.declared.line_error.BadLine.TheVariants as bad
use Rattle.rx_lines.specs.declared.step.Step.TheVariants.{Line, Long}
use Rattle.rx_proto.specs.Reading.{script_read}
use Rattle.rx_lines.specs.Steps.{IsTold}
use Rattle.rx_script.proofs.Audited.{follows}
use Rattle.rx_script.proofs.Turning.{goes_by, script_read-long}
use Rattle.rx_script.proofs.audit.enter_next.Goals as goal

pub returns-in-Line : goal.returns-in-Line
returns-in-Line g c =
    let read_old = g.R.Read.remaining c.args.reader.now in
    let read_new = g.R.Read.remaining c.advance.new.reader in
    let before = c.args.lines.now in
    let after = c.advance.new.self in
    let goes = goes_by (Line c.in-Line.len) read_old read_new before after c.requires c.in-Line.ensures.advances in
    let says : List ℕ → Type 0 = λ line. IsTold line c.in-Line.len after.window in
    IfOk-weaker c.enter_line.result _ _
    (λ end enters. follows end (state_in c.args.audit.now) (state_in c.enter_line.new.audit) read_old read_new before after (script_read c.line.result.now) says
    (λ line said. ap script_read (sym said.bytes ∙ sym c.line.ensures)) goes.0 goes.1 enters)
    c.enter_line.ensures

pub returns-in-Long : goal.returns-in-Long
returns-in-Long g c =
    let read_old = g.R.Read.remaining c.args.reader.now in
    let read_new = g.R.Read.remaining c.advance.new.reader in
    let before = c.args.lines.now in
    let after = c.advance.new.self in
    let goes = goes_by Long read_old read_new before after c.requires c.in-Long.ensures.advances in
    let says : List ℕ → Type 0 = λ line. 1100 < length line in
    follows None (state_in c.args.audit.now) (state_in c.args.audit.now) read_old read_new before after (Err bad.Long) says script_read-long goes.0 goes.1 (refl, refl)
