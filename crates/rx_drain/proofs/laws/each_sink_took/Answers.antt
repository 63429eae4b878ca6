use Rattle.rx_drain.proofs.Taking.{each_sink_took}
use Rattle.rx_drain.proofs.laws.each_sink_took.Goals as goal

pub returns : goal.returns
returns g c = λ leave log. each_sink_took leave log
