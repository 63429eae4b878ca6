use Rattle.rx_workers.proofs.worker.shift.Shift.serve.Goals as goal

-- a session begins and has turns, and then the follower is parted with
pub returns-then-ready-clause-serves : goal.returns-then-ready-clause-serves
returns-then-ready-clause-serves g c =
    rw c.if-ready.true (c.start.new.self, c.turn_some.new.self, c.start.ensures.starts, c.turn_some.ensures.turns, c.part.ensures.parts)

-- or nobody hung up
pub returns-else-ready-clause-serves : goal.returns-else-ready-clause-serves
returns-else-ready-clause-serves g c = rw c.if-ready.false (c.start.new.self, c.start.ensures.starts, c.turn_some.ensures.turns)
