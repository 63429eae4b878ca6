use Rattle.rx_proto.proofs.Exact.{script_exact}
use Rattle.rx_proto.proofs.laws.script_lines_are_exact.Goals as goal

pub returns : goal.returns
returns c = script_exact
