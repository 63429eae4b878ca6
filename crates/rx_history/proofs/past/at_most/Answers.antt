use Rattle.rx_history.proofs.Remembering.{newest-unstamped}
use Rattle.rx_history.proofs.past.at_most.Goals as goal

pub returns : goal.returns
returns c = λ stamped is.
    let kept = c.in_ok-split_off.ensures.tail in
    let newest = newest-unstamped c.in-Some.count stamped in
    rw c.in-Some.is cc
