use Rattle.std.proofs.Common.{◌≡◌, None}
use Rattle.rx_script.specs.Audits.{state_in}
use Rattle.rx_lines.specs.Reads.{ahead}
use Rattle.rx_lines.specs.Steps.{unread}
use Rattle.rx_script.proofs.Audited.{LearnsSoFar}
use Rattle.rx_script.proofs.audit.enter_all.Given as goal

abbrev pub invariant-loop-end : goal.invariant-loop-end
invariant-loop-end g l =
    LearnsSoFar (state_in l.initial.audit) (state_in l.audit) (g.R.Read.remaining l.initial.reader) (g.R.Read.remaining l.reader) (unread l.lines)
    × (l.lines.end ≡ None)

abbrev pub decreases-loop-end : goal.decreases-loop-end
decreases-loop-end g l = ahead l.lines.reads (unread l.lines)
