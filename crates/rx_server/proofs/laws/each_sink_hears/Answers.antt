use Rattle.rx_server.proofs.HeardAll.{each_hears}
use Rattle.rx_server.proofs.laws.each_sink_hears.Goals as goal

pub returns : goal.returns
returns g c = each_hears g.S.Sink.acts
