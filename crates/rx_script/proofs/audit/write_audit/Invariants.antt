use Rattle.std.proofs.Common.{take, []}
use Rattle.std.specs.List.{flat_map}
use Rattle.rx_script.specs.Audits.{subject_in, subject_written}
use Rattle.rx_lines.specs.Bytes.{Holds}
use Rattle.rx_script.proofs.audit.write_audit.Given as goal

abbrev pub invariant-loop-ledger : goal.invariant-loop-ledger
invariant-loop-ledger g l =
    Holds [] l.outbox (g.W.Write.contents l.initial.writer) (g.W.Write.contents l.writer) (flat_map (λ ledger. subject_written (subject_in ledger)) (take l.ledger-index l.ledger-items))
