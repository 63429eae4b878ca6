use Rattle.rx_script.proofs.Ledgers.{subjects_in-push}
use Rattle.rx_script.proofs.ledger_list.ledgers_of.Goals as goal

pub loop-subject-preserved : goal.loop-subject-preserved
loop-subject-preserved c = subjects_in-push _ _ _ _ _ c.loop-subject.invariant c.new.ensures c.in_ok-push.ensures.items
