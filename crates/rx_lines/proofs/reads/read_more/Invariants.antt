use Rattle.std.proofs.Common.{◌≡◌, ◌≤◌}
use Rattle.std.specs.Io.KnownBytes.{Keeps}
use Rattle.rx_lines.proofs.reads.read_more.Given as goal

abbrev pub invariant-loop-reads : goal.invariant-loop-reads
invariant-loop-reads g l = Keeps (g.R.Read.remaining l.initial.reader) (g.R.Read.remaining l.reader) × (l.window ≡ l.initial.window) × (l.reads ≤ l.initial.reads)

abbrev pub decreases-loop-reads : goal.decreases-loop-reads
decreases-loop-reads g l = l.reads
