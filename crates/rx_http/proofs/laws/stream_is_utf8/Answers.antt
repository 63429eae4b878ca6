use Rattle.rx_http.proofs.Utf8.{stream_is_utf8}
use Rattle.rx_http.proofs.laws.stream_is_utf8.Goals as goal

pub returns : goal.returns
returns c = stream_is_utf8
