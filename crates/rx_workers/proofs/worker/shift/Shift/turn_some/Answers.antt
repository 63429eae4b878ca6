-- The session that is under way has one turn, or two; where none is it has none.
use Rattle.std.proofs.Common.{◌∙◌, sym}
use Rattle.rx_workers.proofs.Working.{turns-one, turns-two}
use Rattle.rx_workers.proofs.worker.shift.Shift.turn_some.Goals as goal

pub returns-then-turn-clause-turns : goal.returns-then-turn-clause-turns
returns-then-turn-clause-turns g c =
    let talks = c.turn.ensures.talks c.if-turn.true in
    let first = c.turn.ensures.turned talks.0 in
    turns-two g.M.Moments.tells g.C.Read.remaining g.W.Write.contents c.args.place c.args.self.now c.turn.new.self c.turn-then-turn.new.self
    (first.0, sym c.if-turn.true ∙ first.1) (c.turn-then-turn.ensures.turned talks.1).0

pub returns-else-turn-clause-turns : goal.returns-else-turn-clause-turns
returns-else-turn-clause-turns g c =
    turns-one g.M.Moments.tells g.C.Read.remaining g.W.Write.contents c.args.place c.args.self.now c.turn.new.self
    (λ talks. (let first = c.turn.ensures.turned talks in (first.0, sym c.if-turn.false ∙ first.1))) c.turn.ensures.kept
