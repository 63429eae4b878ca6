-- A note that is begun waits behind those that are begun already.
use Rattle.std.proofs.Common.{refl, sym}
use Rattle.rx_desk.proofs.Queues.{Waits-begun}
use Rattle.rx_desk.proofs.session_desk.SessionDeskDesk.begin.Goals as goal

pub returns : goal.returns
returns g c =
    let goes = rw (← c.self.view_is) at (c.if-not-goes_behind.ensures refl) in
    let named = rw (← c.self.view_is) at c.in-Some.ensures in
    rw (← c.self.view_is)
    (λ base begun count is.
    c.post.ensures base _
    (Waits-begun g.M.Moments.tells base _ _ begun c.args.name.now c.args.note c.args.behind _ goes
    (record { at = c.now-at.result; told = c.now-at.ensures; event = refl; named = sym named; subjects = refl; window = refl; calls = refl; joined = refl; posted = refl; waiting = refl })
    count is))
