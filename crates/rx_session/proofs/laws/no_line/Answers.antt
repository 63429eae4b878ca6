use Rattle.rx_lines.proofs.LinesOf.{lines_of-none}
use Rattle.rx_session.proofs.laws.no_line.Goals as goal

pub returns : goal.returns
returns c = lines_of-none
