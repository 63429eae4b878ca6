use Rattle.std.proofs.Common.{sym, refl, ◌∙◌}
use Rattle.rx_history.proofs.Agreeing.{on_ok, passes_emitted, passes_passed_by, passes_refused}
use Rattle.rx_history.proofs.walk.Walk.emit.Goals as goal

pub returns-then-not-accepts-clause-passes : goal.returns-then-not-accepts-clause-passes
returns-then-not-accepts-clause-passes c =
    let rules = c.args.rules.now in
    passes_refused rules c.args.self.now c.args.port c.args.note.now c.args.at (λ H was. sym (c.accepts.ensures rules H refl was) ∙ c.if-not-accepts.true)

pub returns-then-not-holds-clause-passes : goal.returns-then-not-holds-clause-passes
returns-then-not-holds-clause-passes c =
    let rules = c.args.rules.now in
    on_ok c.emit.result
    (λ emitted.
    passes_passed_by rules c.args.self.now _ c.args.port c.args.note.now c.args.at (λ H was. sym (c.accepts.ensures rules H refl was) ∙ c.if-not-accepts.false)
    (sym c.holds.ensures ∙ c.if-not-holds.true) refl refl refl (λ H. emitted rules H refl))
    c.emit.ensures

pub returns-clause-passes : goal.returns-clause-passes
returns-clause-passes c =
    let rules = c.args.rules.now in
    let note = c.args.note.now in
    on_ok c.emit-2.result
    (λ emitted.
    passes_emitted rules c.args.self.now _ c.args.port note c.args.at c.in_ok-offers.offers.items (λ H was. sym (c.accepts.ensures rules H refl was) ∙ c.if-not-accepts.false)
    (sym c.holds.ensures ∙ c.if-not-holds.false) refl refl
    (λ H. emitted rules H refl) c.in_ok-offers.ensures
    (rw (← c.in_ok-terminal_in.ensures) c.in_ok-follow.ensures))
    c.emit-2.ensures
