use Rattle.rx_sink.proofs.Taking.{tells_faults}
use Rattle.rx_sink.proofs.laws.counts_tell_faults.Goals as goal

pub returns : goal.returns
returns g c = tells_faults g.S.Sink.acts
