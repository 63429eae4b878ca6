use Rattle.rx_workers.proofs.worker.shift.Shift.is_over.Goals as goal

pub returns-then-not-self : goal.returns-then-not-self
returns-then-not-self g c = rw (← c.self.view_is) (λ yes. (c.if-not-self.true, c.is_quiet.ensures.0 yes), λ over. c.is_quiet.ensures.1 over.1)
