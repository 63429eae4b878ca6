use Rattle.rx_server.proofs.Arriving.{answered}
use Rattle.rx_server.proofs.laws.each_desk_is_answered.Goals as goal

pub returns : goal.returns
returns g c = answered g.S.Sink.acts
