use Rattle.rx_lines.proofs.Written.{Holds-pushed}
use Rattle.rx_script.proofs.Pushing.{Puts-refused, pushed-on}
use Rattle.rx_script.proofs.printed_note.put_marked.Goals as goal

pub returns-in_err-ready : goal.returns-in_err-ready
returns-in_err-ready g c = Puts-refused _ _ _ _ _ _ c.from_residual.ensures.0 c.in_err-ready.ensures.puts

pub returns : goal.returns
returns g c = Holds-pushed _ _ _ _ _ _ c.in_ok-ready.ensures.puts (pushed-on _ _ _ _ _ c.push.ensures c.push_note.ensures)
