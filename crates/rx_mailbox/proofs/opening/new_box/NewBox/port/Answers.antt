use Rattle.rx_mailbox.proofs.Steps.{may_split, is_reader}
use Rattle.rx_mailbox.proofs.opening.new_box.NewBox.port.Goals as goal

pub another-own-requires-clause-rule : goal.another-own-requires-clause-rule
another-own-requires-clause-rule g c = may_split _ _ (is_reader _ _ _ _ c.requires)
