use Rattle.rx_lines.proofs.Written.{Loses-more, Puts-fault, Puts-then}
use Rattle.rx_script.proofs.script.put_answer.Goals as goal

pub returns-in_err-put_reply : goal.returns-in_err-put_reply
returns-in_err-put_reply g c =
    rw (← c.response_of.ensures) (Puts-fault _ _ _ _ _ _ c.from_residual.ensures.0 (Loses-more _ _ _ _ _ _ c.in_err-put_reply.ensures))

pub returns : goal.returns
returns g c = rw (← c.response_of.ensures) (Puts-then c.put_all.result _ _ _ _ _ _ _ _ c.in_ok-put_reply.ensures c.put_all.ensures)
