use Rattle.rx_events.proofs.Written.{writes_events}
use Rattle.rx_events.proofs.laws.event_sinks_write.Goals as goal

pub returns : goal.returns
returns g c = writes_events g.W.Write.contents
