use Rattle.std.proofs.Common.{take}
use Rattle.rx_script.specs.Audits.{note_lines}
use Rattle.rx_lines.specs.Bytes.{Holds}
use Rattle.rx_script.proofs.audit.put_notes.Given as goal

abbrev pub invariant-loop-note : goal.invariant-loop-note
invariant-loop-note g l =
    Holds l.initial.outbox l.outbox (g.W.Write.contents l.initial.writer) (g.W.Write.contents l.writer) (note_lines l.mark (take l.note-index l.note-items))
