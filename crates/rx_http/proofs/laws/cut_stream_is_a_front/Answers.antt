use Rattle.rx_http.proofs.Cutting.{cut_stream_is_a_front}
use Rattle.rx_http.proofs.laws.cut_stream_is_a_front.Goals as goal

pub returns : goal.returns
returns c = cut_stream_is_a_front
