use Rattle.std.proofs.Common.{ap, ◌∙◌}
use Rattle.rx_log.specs.declared.standing.Standing.TheVariants.{Counts}
use Rattle.rx_log.specs.Rules.{RuleState}
use Rattle.std.proofs.Common.{Option, None}
use Rattle.rx_log.specs.declared.total.Total.{Total}
use Rattle.rx_log.proofs.Following.{foreign-follows}
use Rattle.rx_log.proofs.rule.Rule.step_foreign.Goals as goal

pub returns-clause-ok : goal.returns-clause-ok
returns-clause-ok c = λ L text stands.
    record {
      stands_is = ap (λ (o : Option Total). Counts None o) (ap (λ (rule : RuleState). rule.total) c.self.view_is ∙ stands.total_is);
      goes_on = foreign-follows c.args.self.now c.note.new.self L text stands c.in_ok-note.ensures.ok;
    }
