-- What is pushed is the event with its port.
use Rattle.std.proofs.Common.{[], ◌∷◌, ◌++◌, ap, ◌∙◌}
use Rattle.rx_history.proofs.history.History.add.Goals as goal

pub returns-clause-ok : goal.returns-clause-ok
returns-clause-ok c = c.in_ok-push.ensures.items ∙ ap (λ events. events ++ (c.args.port, c.args.event) ∷ []) c.self.view_is
