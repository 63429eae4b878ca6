use Rattle.rx_pump.proofs.Answering.{each_reply_is_to_its_call}
use Rattle.rx_pump.proofs.laws.each_reply_is_to_its_call.Goals as goal

pub returns : goal.returns
returns g c = each_reply_is_to_its_call
