-- A session begins by one deed, or its connection is given up by one.
use Rattle.std.proofs.Common.{ℕ, true, false, ap, inl, inr, refl}
use Rattle.rx_session.specs.OpenSessions.{IsNew}
use Rattle.rx_workers.specs.Working.{state}
use Rattle.rx_workers.proofs.Talks.{starts-as}
use Rattle.rx_workers.proofs.worker.shift.Shift.start.Goals as goal

pub returns-then-begin-clause-starts : goal.returns-then-begin-clause-starts
returns-then-begin-clause-starts g c =
    let (connection, starts) = c.if-begin.ensures.starts in
    let began = starts-as c.new-session.result IsNew true c.args.place connection c.self.inside.clients c.begin.new.clients c.new-session.ensures.new starts in
    let more = ap (λ (n : ℕ). state c.self.inside.desk c.self.inside.inbox c.begin.new.clients n c.self.inside.is_open) c.saturating_add-self-inside.ensures in
    rw (← c.self.view_is) (inl (connection, inl (began, more)))

-- there was no memory for it
pub returns-else-begin-clause-starts : goal.returns-else-begin-clause-starts
returns-else-begin-clause-starts g c =
    let (connection, starts) = c.if-begin.ensures.starts in
    let gone = starts-as c.new-session.result IsNew false c.args.place connection c.self.inside.clients c.begin.new.clients c.new-session.ensures.new starts in
    rw (← c.self.view_is) (inl (connection, inr (gone, refl)))
