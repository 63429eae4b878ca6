use Rattle.rx_pump.proofs.Replied.{reply_tells_the_place}
use Rattle.rx_pump.proofs.laws.reply_tells_the_place.Goals as goal

pub returns : goal.returns
returns g c = reply_tells_the_place
