use Rattle.rx_drain.proofs.Faultless.{faultless_sinks_took_all}
use Rattle.rx_drain.proofs.laws.faultless_sinks_took_all.Goals as goal

pub returns : goal.returns
returns g c = faultless_sinks_took_all g.S.Sink.acts
