use Rattle.rx_server.proofs.Arriving.{requested}
use Rattle.rx_server.proofs.laws.each_request_arrived.Goals as goal

pub returns : goal.returns
returns g c = requested g.S.Sink.acts
