use Rattle.rx_http.proofs.Going.{goes_on}
use Rattle.rx_http.proofs.laws.reader_goes_on.Goals as goal

pub returns : goal.returns
returns c = goes_on
