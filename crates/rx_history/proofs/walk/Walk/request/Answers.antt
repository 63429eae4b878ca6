use Rattle.std.proofs.Common.{refl, sym, ◌∙◌}
use Rattle.std.proofs.lemmas.Bool.{eq-eqb}
use Rattle.rx_history.proofs.Agreeing.{passes_requested}
use Rattle.rx_history.proofs.walk.Walk.request.Goals as goal

pub returns-then-holds-clause-passes : goal.returns-then-holds-clause-passes
returns-then-holds-clause-passes c = λ rules port.
    passes_requested rules c.args.self.now _ port c.args.who c.args.n (eq-eqb _ _ c.if-who-self.true) (sym c.holds.ensures ∙ c.if-holds.true) refl refl refl c.request_by.ensures
