use Rattle.rx_server.proofs.Arriving.{arrives}
use Rattle.rx_server.proofs.laws.each_letter_arrived.Goals as goal

pub returns : goal.returns
returns g c = arrives g.S.Sink.acts
