use Rattle.rx_proto.proofs.Exact.{session_exact}
use Rattle.rx_proto.proofs.laws.session_lines_are_exact.Goals as goal

pub returns : goal.returns
returns c = session_exact
