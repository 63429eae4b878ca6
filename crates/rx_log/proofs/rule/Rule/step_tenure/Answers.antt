use Rattle.std.proofs.Common.{◌+◌, Bool, cond, sym, ap, subst, ◌∙◌}
use Rattle.rx_log.specs.declared.standing.Standing.TheVariants.{Opens, Void}
use Rattle.rx_log.specs.declared.entry.Entry.TheVariants.{Tenure}
use Rattle.rx_log.specs.Logs.{◌▹◌}
use Rattle.rx_log.specs.Terms.{Stands}
use Rattle.rx_log.specs.Rules.{RuleState, StandsFor}
use Rattle.rx_log.proofs.Following.{tenure-follows}
use Rattle.rx_log.proofs.rule.Rule.step_tenure.Goals as goal

pub returns-clause-ok : goal.returns-clause-ok
returns-clause-ok c = λ L stands.
    let old = c.args.self.now in
    let counts_is = c.opens-counts.ensures L stands in
    let terms = c.stand.new.terms.items in
    let total = c.known_with-total.result in
    record {
      stands_is = c.standing_of.ensures ∙ ap (λ (b : Bool). cond b Opens Void) counts_is;
      goes_on = subst (λ (rule : RuleState). StandsFor (record rule { at = rule.at + 1; terms = terms; total = total }) (L ▹ Tenure c.args.holder c.args.base c.args.told)) (sym c.self.view_is)
          (tenure-follows old L c.args.holder c.args.base c.args.told c.opens-counts.result terms total stands counts_is
          (subst (λ (rule : RuleState). Stands rule.at rule.span rule.terms terms c.args.holder c.opens-counts.result) c.self.view_is c.in_ok-stand.ensures.ok)
          (c.known_with-total.ensures.known L c.args.holder stands counts_is) c.known_with-total.ensures.unknown);
    }
