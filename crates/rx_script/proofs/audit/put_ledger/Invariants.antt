use Rattle.std.proofs.Common.{◌≤◌}
use Rattle.rx_history.specs.Histories.{joins}
use Rattle.rx_history.specs.Stored.{history_of}
use Rattle.rx_script.specs.Audits.{observers_written, subject_in}
use Rattle.rx_lines.specs.Bytes.{Holds}
use Rattle.rx_script.proofs.audit.put_ledger.Given as goal

abbrev pub invariant-loop-who : goal.invariant-loop-who
invariant-loop-who g l =
    Holds l.initial.outbox l.outbox (g.W.Write.contents l.initial.writer) (g.W.Write.contents l.writer) (observers_written (subject_in l.ledger) l.who)
    × (l.who ≤ joins l.ledger.subject.rules (history_of l.ledger.history))
