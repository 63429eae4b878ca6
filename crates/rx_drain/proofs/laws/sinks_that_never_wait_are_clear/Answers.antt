use Rattle.rx_drain.proofs.Paying.{keeps_clear}
use Rattle.rx_drain.proofs.laws.sinks_that_never_wait_are_clear.Goals as goal

pub returns : goal.returns
returns g c = keeps_clear g.S.Sink.acts
