-- There is room for one reader more.
use Rattle.std.proofs.Common.{inr, arith}
use Rattle.rx_desk.proofs.event_desk.EventDesk.join_named.Goals as goal

pub returns : goal.returns
returns g c = rw (← c.self.view_is) (rw (← c.in-Some.ensures) (inr (omega (arith, c.if-self.false), rw (← c.self.view_is) at c.join_at.ensures)))
