-- What was begun at the end is answered there.
use Rattle.rx_session.specs.Sessions.{parties}
use Rattle.rx_session.proofs.Gathering.{Sitting-answered}
use Rattle.rx_session.proofs.open_session.OpenSession.carry_known.Goals as goal

pub returns-in-On-clause-carried : goal.returns-in-On-clause-carried
returns-in-On-clause-carried g c start first read_old read_now s =
    let p = parties g.D.Desk.knows g.D.Desk.emits g.D.Desk.follows g.W.Write.contents in
    Sitting-answered p g.D.Desk.waits start first read_old read_now c.carry_lines.new.desk c.answer_all.new.desk c.in-On.writer c.carry_lines.new.self c.answer_all.new.outbox c.carry_lines.new.begun
    (c.in-On.ensures.gathered start first read_old read_now s)
    (λ at notes count stands. c.answer_all.ensures.answered at notes c.in-On.writer c.carry_lines.new.self.version count stands) c.answer_all.ensures.same
