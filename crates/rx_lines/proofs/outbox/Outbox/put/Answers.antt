use Rattle.rx_lines.proofs.Written.{Holds-here}
use Rattle.rx_lines.proofs.outbox.Outbox.put.Goals as goal

pub returns : goal.returns
returns g c = Holds-here _ _ _ _ c.push.ensures
