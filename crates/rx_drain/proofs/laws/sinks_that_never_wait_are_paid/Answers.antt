use Rattle.rx_drain.proofs.Paying.{owes_nothing}
use Rattle.rx_drain.proofs.laws.sinks_that_never_wait_are_paid.Goals as goal

pub returns : goal.returns
returns g c = owes_nothing g.S.Sink.acts
