-- What waited is sent first.
use Rattle.std.proofs.Common.{sym, ◌∙◌}
use Rattle.std.proofs.lemmas.Bool.{false≢true}
use Rattle.rx_session.specs.Sessions.{parties}
use Rattle.rx_session.specs.declared.turn.Turn.TheVariants.{Again, Stuck, Over}
use Rattle.rx_session.proofs.ByTurns.{held_sent}
use Rattle.rx_session.proofs.open_session.OpenSession.turn.Goals as goal

pub returns-in-Again-clause-sits : goal.returns-in-Again-clause-sits
returns-in-Again-clause-sits g c start first read_old s =
    let p = parties g.D.Desk.knows g.D.Desk.emits g.D.Desk.follows g.W.Write.contents in
    c.go_on.ensures.sits start first read_old (held_sent p start first read_old _ c.args.desk.now c.args.writer c.args.self.now c.send.new.outbox (Again c.in-Again.writer) s c.in-Again.ensures)

pub returns-in-Again-clause-quits : goal.returns-in-Again-clause-quits
returns-in-Again-clause-quits g c quits = absurd (false≢true (sym c.in-Again.ensures.0 ∙ quits))

pub returns-in-Waits-clause-sits : goal.returns-in-Waits-clause-sits
returns-in-Waits-clause-sits g c start first read_old s = absurd c.in-Waits.ensures

pub returns-in-Stuck-clause-sits : goal.returns-in-Stuck-clause-sits
returns-in-Stuck-clause-sits g c start first read_old s =
    let p = parties g.D.Desk.knows g.D.Desk.emits g.D.Desk.follows g.W.Write.contents in
    held_sent p start first read_old _ c.args.desk.now c.args.writer c.args.self.now c.send.new.outbox (Stuck c.in-Stuck.writer) s c.in-Stuck.ensures

pub returns-in-Over-clause-sits : goal.returns-in-Over-clause-sits
returns-in-Over-clause-sits g c start first read_old s =
    let p = parties g.D.Desk.knows g.D.Desk.emits g.D.Desk.follows g.W.Write.contents in
    held_sent p start first read_old _ c.args.desk.now c.args.writer c.args.self.now c.send.new.outbox (Over c.in-Over.end c.in-Over.back) s c.in-Over.ensures
