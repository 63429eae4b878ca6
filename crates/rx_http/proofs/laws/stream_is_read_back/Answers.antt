use Rattle.rx_http.proofs.Streams.{stream_is_read_back}
use Rattle.rx_http.proofs.laws.stream_is_read_back.Goals as goal

pub returns : goal.returns
returns c = stream_is_read_back
