use Rattle.rx_lines.proofs.Written.{Holds-pushed, Loses-more}
use Rattle.rx_lines.proofs.outbox.Outbox.put_reply.Goals as goal

pub returns-in-Err : goal.returns-in-Err
returns-in-Err g c = Loses-more _ _ _ _ _ _ c.in-Err.ensures.puts

pub returns : goal.returns
returns g c = Holds-pushed _ _ _ _ _ _ c.in-Ok.ensures.puts c.push_reply.ensures.line
