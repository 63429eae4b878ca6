-- The call that is made is the one that the definition says, and what becomes of the writer is read from its answer.
use Rattle.rx_desk.proofs.session_desk.SessionDeskDesk.follow.Goals as goal

pub returns : goal.returns
returns g c =
    let call = rw (c.gathering.ensures, c.window-first.ensures) at c.join.ensures in
    rw (← c.in-Some.ensures) (c.join.result, call.once, c.followed.ensures, call.over, call.queue, call.joined)
