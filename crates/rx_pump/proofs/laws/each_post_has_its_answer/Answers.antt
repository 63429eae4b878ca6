use Rattle.rx_pump.proofs.Answering.{each_post_has_its_answer}
use Rattle.rx_pump.proofs.laws.each_post_has_its_answer.Goals as goal

pub returns : goal.returns
returns g c = each_post_has_its_answer
