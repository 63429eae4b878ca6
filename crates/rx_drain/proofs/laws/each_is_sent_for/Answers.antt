use Rattle.rx_drain.proofs.Owing.{each_is_sent_for}
use Rattle.rx_drain.proofs.laws.each_is_sent_for.Goals as goal

pub returns : goal.returns
returns g c = λ leave log. each_is_sent_for leave log
