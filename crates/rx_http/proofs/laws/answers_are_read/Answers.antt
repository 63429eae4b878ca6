use Rattle.rx_http.proofs.Responses.{answers_are_read}
use Rattle.rx_http.proofs.laws.answers_are_read.Goals as goal

pub returns : goal.returns
returns c = answers_are_read
