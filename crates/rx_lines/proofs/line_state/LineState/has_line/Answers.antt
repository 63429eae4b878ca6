use Rattle.rx_lines.proofs.Stepping.{finds_by}
use Rattle.rx_lines.proofs.line_state.LineState.has_line.Goals as goal

pub returns-clause-has : goal.returns-clause-has
returns-clause-has c = rw (c.let_go.ensures.taken, c.is_some.ensures) (finds_by _ _ c.find_lf.ensures.found)
