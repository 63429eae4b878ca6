use Rattle.std.proofs.Common.{◌≡◌, map}
use Rattle.rx_note.specs.declared.note.Note.TheVariants.{Next}
use Rattle.rx_history.proofs.trace.Trace.line.Given as goal

abbrev pub invariant-loop-item : goal.invariant-loop-item
invariant-loop-item l = (l.notes.items ≡ map Next l.yielded) × (l.end ≡ l.fn.self.end)
