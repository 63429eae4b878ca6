use Rattle.rx_lines.proofs.Written.{Loses-more, Loses-then, Puts-fault, Puts-then}
use Rattle.rx_script.proofs.audit.put_observed.Goals as goal

pub returns-in_err-put_observer : goal.returns-in_err-put_observer
returns-in_err-put_observer g c = Puts-fault _ _ _ _ _ _ c.from_residual.ensures.0 (Loses-more _ _ _ _ _ _ c.in_err-put_observer.ensures)

pub returns-in_err-put_notes : goal.returns-in_err-put_notes
returns-in_err-put_notes g c =
    Puts-fault _ _ _ _ _ _ c.from_residual-in_err-put_notes.ensures.0 (Loses-then _ _ _ _ _ _ _ _ c.in_ok-put_observer.ensures (Loses-more _ _ _ _ _ _ c.in_err-put_notes.ensures))

pub returns : goal.returns
returns g c =
    Puts-then c.put_notes-2.result _ _ _ _ _ _ _ _ c.in_ok-put_observer.ensures (Puts-then c.put_notes-2.result _ _ _ _ _ _ _ _ c.in_ok-put_notes.ensures c.put_notes-2.ensures)
