use Rattle.std.proofs.Common.{sym, subst}
use Rattle.rx_log.specs.declared.entry.Entry.{Entry}
use Rattle.rx_log.specs.Rules.{Follows}
use Rattle.rx_log.proofs.Options.{if-ok}
use Rattle.rx_log.proofs.rule.Rule.step.Goals as goal

pub returns-in-Own-clause-ok : goal.returns-in-Own-clause-ok
returns-in-Own-clause-ok c = if-ok c.step_own.result _ _ (λ stands so L rule_stands.
    subst (λ (entry : Entry). Follows c.args.self.now c.step_own.new.self L entry stands) (sym c.in-Own.is)
    (so L _ (sym c.is_terminal.ensures) rule_stands)) c.step_own.ensures.ok

pub returns-in-Foreign-clause-ok : goal.returns-in-Foreign-clause-ok
returns-in-Foreign-clause-ok c = if-ok c.step_foreign.result _ _ (λ stands so L rule_stands.
    subst (λ (entry : Entry). Follows c.args.self.now c.step_foreign.new.self L entry stands) (sym c.in-Foreign.is)
    (so L _ rule_stands)) c.step_foreign.ensures.ok
