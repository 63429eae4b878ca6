-- Parting with a follower is one deed.
use Rattle.std.proofs.Common.{inl, refl}
use Rattle.rx_workers.proofs.worker.shift.Shift.part.Goals as goal

pub returns-clause-parts : goal.returns-clause-parts
returns-clause-parts g c =
    rw (← c.self.view_is) (inl (c.in-Some.follower, c.dispose.ensures, c.in-Some.ensures.taken, refl, refl, refl))
