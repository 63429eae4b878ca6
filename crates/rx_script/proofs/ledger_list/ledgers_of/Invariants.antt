use Rattle.std.proofs.Common.{◌≡◌}
use Rattle.rx_script.specs.Audits.{subjects_in}
use Rattle.rx_script.specs.Scripts.{new_subjects}
use Rattle.rx_script.proofs.ledger_list.ledgers_of.Given as goal

abbrev pub invariant-loop-subject : goal.invariant-loop-subject
invariant-loop-subject l = subjects_in l.ledgers.items ≡ new_subjects l.yielded
