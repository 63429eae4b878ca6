use Rattle.std.proofs.Common.{take}
use Rattle.rx_lines.specs.Bytes.{Holds}
use Rattle.rx_script.specs.Transcripts.{given_lines}
use Rattle.rx_script.proofs.script.put_each.Given as goal

abbrev pub invariant-loop-given : goal.invariant-loop-given
invariant-loop-given g l =
    Holds l.initial.outbox l.outbox (g.W.Write.contents l.initial.writer) (g.W.Write.contents l.writer) (given_lines l.version l.name (take l.given-index l.given-items))
