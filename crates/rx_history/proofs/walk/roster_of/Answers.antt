use Rattle.std.proofs.Common.{take, sym, ap, ◌∙◌}
use Rattle.rx_history.specs.Histories.{roster_of}
use Rattle.rx_history.specs.Stored.{history_of}
use Rattle.rx_history.proofs.Extending.{history_of-next}
use Rattle.rx_history.proofs.walk.roster_of.Goals as goal

pub loop-entry-preserved : goal.loop-entry-preserved
loop-entry-preserved c =
    let entries = c.args.entries.now in
    let i = c.loop-entry.entry-index in
    let entry = c.entry-item in
    c.turn.ensures (history_of (take i entries)) entry.result.0 c.loop-entry.invariant
    ∙ ap (roster_of c.args.rules.now.limits) (sym (history_of-next entries i entry.result c.loop-entry-test.true entry.is))
