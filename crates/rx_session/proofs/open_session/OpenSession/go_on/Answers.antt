-- What came is told, and what was carried out is sent.
use Rattle.rx_session.specs.Sessions.{parties}
use Rattle.rx_session.proofs.ByTurns.{Sitting-none, Sitting-read, over_end, held_sent}
use Rattle.rx_session.proofs.open_session.OpenSession.go_on.Goals as goal

pub returns-in-Nothing-clause-sits : goal.returns-in-Nothing-clause-sits
returns-in-Nothing-clause-sits g c start first read_old s =
    let p = parties g.D.Desk.knows g.D.Desk.emits g.D.Desk.follows g.W.Write.contents in
    Sitting-none p start first read_old _ _ c.args.desk.now c.args.writer c.args.self.now c.fill.new.self c.requires.quits s c.in-Nothing.ensures.comes

pub returns-in-End-clause-sits : goal.returns-in-End-clause-sits
returns-in-End-clause-sits g c start first read_old s =
    let p = parties g.D.Desk.knows g.D.Desk.emits g.D.Desk.follows g.W.Write.contents in
    rw c.end_of.ensures (over_end p start first read_old _ _ c.args.desk.now c.args.writer c.args.self.now c.fill.new.self c.in-End.end c.requires.quits c.requires.held s c.in-End.ensures.comes)

pub returns-in-On-clause-sits : goal.returns-in-On-clause-sits
returns-in-On-clause-sits g c start first read_old s =
    let p = parties g.D.Desk.knows g.D.Desk.emits g.D.Desk.follows g.W.Write.contents in
    let read = Sitting-read p start first read_old _ _ c.args.desk.now c.args.writer c.args.self.now c.fill.new.self c.requires.quits s c.in-Bytes.ensures.comes in
    held_sent p start first read_old _ c.carry_known.new.desk c.in-On.writer c.carry_known.new.self c.send.new.outbox c.send.result (c.in-On.ensures.carried start first read_old _ read) c.send.ensures

pub returns-in-Over-clause-sits : goal.returns-in-Over-clause-sits
returns-in-Over-clause-sits g c start first read_old s =
    let p = parties g.D.Desk.knows g.D.Desk.emits g.D.Desk.follows g.W.Write.contents in
    let read = Sitting-read p start first read_old _ _ c.args.desk.now c.args.writer c.args.self.now c.fill.new.self c.requires.quits s c.in-Bytes.ensures.comes in
    c.in-Over.ensures.carried start first read_old _ read
