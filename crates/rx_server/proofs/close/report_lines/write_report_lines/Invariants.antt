use Rattle.std.proofs.Common.{length}
use Rattle.std.specs.Io.KnownBytes.{Appends}
use Rattle.rx_server.proofs.ReportLines.{first_lines}
use Rattle.rx_server.proofs.close.report_lines.write_report_lines.Given as goal

-- the lines so far were written
abbrev pub invariant-loop-name : goal.invariant-loop-name
invariant-loop-name g l = Appends (g.W.Write.contents l.initial.writer) (g.W.Write.contents l.writer) (first_lines (length l.yielded) l.names l.subjects)
