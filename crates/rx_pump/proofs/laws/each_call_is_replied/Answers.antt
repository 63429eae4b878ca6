use Rattle.rx_pump.proofs.Replied.{each_call_is_replied}
use Rattle.rx_pump.proofs.laws.each_call_is_replied.Goals as goal

pub returns : goal.returns
returns g c = each_call_is_replied
