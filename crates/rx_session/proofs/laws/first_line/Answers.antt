use Rattle.rx_lines.proofs.LinesOf.{lines_of-first}
use Rattle.rx_session.proofs.laws.first_line.Goals as goal

pub returns : goal.returns
returns c = lines_of-first
