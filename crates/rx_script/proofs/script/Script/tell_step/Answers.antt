use Rattle.std.proofs.Common.{◌<◌, ℕ, List, length, ap, subst, sym, ◌∙◌}
use Rattle.rx_proto.specs.Reading.{script_read}
use Rattle.rx_lines.specs.Steps.{IsTold, TakesStep}
use Rattle.rx_lines.specs.declared.step.Step.{Step}
use Rattle.rx_lines.specs.declared.step.Step.TheVariants.{Line, Long}
use Rattle.rx_script.specs.Tellings.{IsInHand}
use Rattle.rx_script.proofs.Turning.{turned, script_read-long}
use Rattle.rx_script.proofs.script.Script.tell_step.Goals as goal

pub tell_on-requires : goal.tell_on-requires
tell_on-requires g c =
    let line : IsInHand (Line c.in-Line.len) c.args.lines.now = subst (λ (s : Step). IsInHand s c.args.lines.now) c.in-Line.is c.requires in
    rw c.line.ensures (line.1, line.2)

pub returns-in-Line : goal.returns-in-Line
returns-in-Line g c read_old read_new before made =
    let after = c.args.lines.now in
    let goes : TakesStep (Line c.in-Line.len) read_old read_new before after = subst (λ (s : Step). TakesStep s read_old read_new before after) c.in-Line.is made in
    let says : List ℕ → Type 0 = λ line. IsTold line c.in-Line.len after.window in
    turned c.tell_on.result _ _ _ _ read_old read_new before after (script_read c.line.result.now) says
    (λ line said. ap script_read (sym said.bytes ∙ sym c.line.ensures)) goes.0 goes.1 c.tell_on.ensures

pub returns-in-Long : goal.returns-in-Long
returns-in-Long g c read_old read_new before made =
    let after = c.args.lines.now in
    let goes : TakesStep Long read_old read_new before after = subst (λ (s : Step). TakesStep s read_old read_new before after) c.in-Long.is made in
    let says : List ℕ → Type 0 = λ line. 1100 < length line in
    turned c.tell_on-in-Long.result _ _ _ _ read_old read_new before after _ says script_read-long goes.0 goes.1 c.tell_on-in-Long.ensures
