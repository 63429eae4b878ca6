use Rattle.rx_http.proofs.HeadLaws.{head_is_the_same}
use Rattle.rx_http.proofs.laws.head_is_the_same.Goals as goal

pub returns : goal.returns
returns c = head_is_the_same
