use Rattle.rx_http.proofs.BodyLines.{read_back}
use Rattle.rx_http.proofs.laws.lines_are_read_back.Goals as goal

pub returns : goal.returns
returns c = read_back
