use Rattle.rx_lines.proofs.Sheds.{HasRead}
use Rattle.rx_lines.proofs.reads.next_lf.Given as goal

abbrev pub invariant-loop-len : goal.invariant-loop-len
invariant-loop-len g l =
    HasRead (g.R.Read.remaining l.initial.reader) (g.R.Read.remaining l.reader) l.initial.window l.window l.initial.reads l.reads l.is_long

abbrev pub decreases-loop-len : goal.decreases-loop-len
decreases-loop-len g l = l.reads
