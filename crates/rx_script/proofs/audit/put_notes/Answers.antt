use Rattle.std.proofs.Common.{◌<◌, ℕ, List, ◌++◌, length, ap, ◌∙◌, arith}
use Rattle.rx_note.specs.declared.note.Note.{Note}
use Rattle.rx_script.specs.Audits.{note_lines}
use Rattle.rx_proto.specs.Printing.{note_line}
use Rattle.rx_proto.specs.declared.version.Version.TheVariants.{One}
use Rattle.rx_script.proofs.Pieces.{flat_map-next, flat_map-parts}
use Rattle.rx_lines.proofs.Written.{Holds-then, Loses-then, Loses-more, Puts-as, Puts-fault}
use Rattle.rx_script.proofs.audit.put_notes.Goals as goal

pub returns-in_err-put_marked : goal.returns-in_err-put_marked
returns-in_err-put_marked g c =
    let notes = c.deref-note-items.result.now in
    let lt : c.loop-note.note-index < length notes = omega arith in
    let line : Note → List ℕ = λ note. c.args.mark.now ++ note_line One note in
    Puts-as c.from_residual.result (g.W.Write.contents c.args.writer.now) (g.W.Write.contents c.put_marked.new.writer) c.args.outbox.now c.put_marked.new.outbox _ _
    (flat_map-parts line notes c.loop-note.note-index c.note-item.result lt c.note-item.is ∙ ap (note_lines c.args.mark.now) c.deref-note-items.ensures.value)
    (Puts-fault _ _ _ _ _ _ c.from_residual.ensures.0 (Loses-more _ _ _ _ _ _ (Loses-then _ _ _ _ _ _ _ _ c.loop-note.invariant c.in_err-put_marked.ensures)))

pub loop-note-preserved : goal.loop-note-preserved
loop-note-preserved g c =
    let notes = c.deref-note-items.result.now in
    let lt : c.loop-note.note-index < length notes = omega arith in
    let line : Note → List ℕ = λ note. c.args.mark.now ++ note_line One note in
    rw (flat_map-next line notes c.loop-note.note-index c.note-item.result lt c.note-item.is)
    (Holds-then _ _ _ _ _ _ _ _ c.loop-note.invariant c.in_ok-put_marked.ensures)
