-- An observer that is owed nothing is given nothing.
use Rattle.std.proofs.Common.{rules}
use Rattle.rx_hub.proofs.subscription.Subscription.give_now.Goals as goal

pub returns-in_ok-self-clause-given : goal.returns-in_ok-self-clause-given
returns-in_ok-self-clause-given c = search rules

pub returns-in_default-clause-given : goal.returns-in_default-clause-given
returns-in_default-clause-given c = search rules
