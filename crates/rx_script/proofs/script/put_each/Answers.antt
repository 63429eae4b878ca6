use Rattle.std.proofs.Common.{◌<◌, length, ap, ◌∙◌, arith}
use Rattle.rx_script.specs.Transcripts.{given_lines}
use Rattle.rx_script.proofs.Tellings.{given_lines-more, given_lines-parts}
use Rattle.rx_lines.proofs.Written.{Holds-then, Loses-then, Loses-more, Puts-as, Puts-fault}
use Rattle.rx_script.proofs.script.put_each.Goals as goal

pub returns-in_err-put_given : goal.returns-in_err-put_given
returns-in_err-put_given g c =
    let given = c.deref-given-items.result.now in
    let lt : c.loop-given.given-index < length given = omega arith in
    Puts-as c.from_residual.result (g.W.Write.contents c.args.writer.now) (g.W.Write.contents c.put_given.new.writer) c.args.outbox.now c.put_given.new.outbox _ _
    (given_lines-parts c.args.version c.args.name.now given c.loop-given.given-index c.given-item.result lt c.given-item.is ∙ ap (given_lines c.args.version c.args.name.now) c.deref-given-items.ensures.value)
    (Puts-fault _ _ _ _ _ _ c.from_residual.ensures.0 (Loses-more _ _ _ _ _ _ (Loses-then _ _ _ _ _ _ _ _ c.loop-given.invariant c.in_err-put_given.ensures)))

pub loop-given-preserved : goal.loop-given-preserved
loop-given-preserved g c =
    let given = c.deref-given-items.result.now in
    let lt : c.loop-given.given-index < length given = omega arith in
    rw (given_lines-more c.args.version c.args.name.now given c.loop-given.given-index c.given-item.result lt c.given-item.is)
    (Holds-then _ _ _ _ _ _ _ _ c.loop-given.invariant c.in_ok-put_given.ensures)
