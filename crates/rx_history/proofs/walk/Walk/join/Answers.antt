use Rattle.std.proofs.Common.{◌==◌, refl, sym, ap, ◌∙◌}
use Rattle.std.proofs.lemmas.Bool.{eq-eqb, ne_eqb}
use Rattle.rx_history.proofs.Agreeing.{passes_not_joined, passes_other_joined, passes_joined}
use Rattle.rx_history.proofs.walk.Walk.join.Goals as goal

pub returns-then-not-admits-clause-passes : goal.returns-then-not-admits-clause-passes
returns-then-not-admits-clause-passes c = λ port.
    passes_not_joined c.args.rules.now c.args.self.now port c.args.policy c.args.first c.args.at (sym c.admits.ensures.admitted ∙ c.if-not-admits.true)

pub returns-else-who-self-clause-passes : goal.returns-else-who-self-clause-passes
returns-else-who-self-clause-passes c = λ port.
    let rules = c.args.rules.now in
    passes_other_joined rules c.args.self.now _ port c.args.policy c.args.first c.args.at
    (sym c.admits.ensures.admitted ∙ c.if-not-admits.false) (ap (λ n. n == c.args.self.now.who) (sym c.joins-who.ensures) ∙ ne_eqb _ _ c.if-who-self.false) refl c.join.ensures refl
    (λ H. c.join-2.ensures rules H port c.args.policy c.args.first)

pub returns-in_ok-follow-clause-passes : goal.returns-in_ok-follow-clause-passes
returns-in_ok-follow-clause-passes c = λ port.
    let rules = c.args.rules.now in
    passes_joined rules c.args.self.now _ c.follow.new.self port c.args.policy c.args.first c.args.at c.in_ok-opening.field-0.items c.in_ok-copy_of.field-0
    (sym c.admits.ensures.admitted ∙ c.if-not-admits.false) (ap (λ n. n == c.args.self.now.who) (sym c.joins-who.ensures) ∙ eq-eqb _ _ c.if-who-self.true) refl c.join.ensures refl
    (λ H. c.join-2.ensures rules H port c.args.policy c.args.first) (c.in_ok-opening.ensures rules) c.in_ok-copy_of.ensures
    (c.in_ok-follow.ensures _ c.joined-trace.ensures)
