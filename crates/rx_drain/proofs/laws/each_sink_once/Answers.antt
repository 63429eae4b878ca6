use Rattle.rx_drain.proofs.Counting.{each_sink_once}
use Rattle.rx_drain.proofs.laws.each_sink_once.Goals as goal

pub returns : goal.returns
returns g c = λ leave log. each_sink_once leave log
