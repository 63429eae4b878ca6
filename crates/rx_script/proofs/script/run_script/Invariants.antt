use Rattle.std.proofs.Common.{◌≡◌, None}
use Rattle.rx_lines.specs.Reads.{ahead}
use Rattle.rx_script.specs.Scripts.{new_subjects}
use Rattle.rx_lines.specs.Steps.{unread}
use Rattle.rx_script.proofs.SoFar.{SoFar}
use Rattle.rx_script.proofs.script.run_script.Given as goal

abbrev pub invariant-loop-step : goal.invariant-loop-step
invariant-loop-step g l =
    SoFar (new_subjects l.fn.config.subjects.items) (g.R.Read.remaining l.initial.reader) (g.R.Read.remaining l.reader)
    (g.W.Write.contents l.initial.writer) (g.W.Write.contents l.writer) l.script (unread l.lines)
    × (l.lines.end ≡ None)

abbrev pub decreases-loop-step : goal.decreases-loop-step
decreases-loop-step g l = ahead l.lines.reads (unread l.lines)
