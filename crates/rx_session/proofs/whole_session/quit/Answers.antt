use Rattle.std.proofs.Common.{refl, inr}
use Rattle.rx_lines.proofs.Written.{Prefix-put}
use Rattle.rx_session.proofs.whole_session.quit.Goals as goal

pub returns-in-Err-flush : goal.returns-in-Err-flush
returns-in-Err-flush g c = (c.flush.new.writer, refl, inr (refl, Prefix-put _ _ _ _ _ _ c.in-Ok.ensures c.in-Err-flush.ensures.written))
