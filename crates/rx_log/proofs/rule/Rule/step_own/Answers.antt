use Rattle.std.proofs.Common.{◌≡◌, ◌+◌, sym, ap, subst, ◌∙◌, List, map, Option, Some}
use Rattle.std.proofs.lemmas.Bool.{cond-true, cond-false}
use Rattle.rx_log.specs.declared.holder.Holder.{Holder}
use Rattle.rx_log.specs.declared.term.Term.{Term}
use Rattle.rx_log.specs.declared.total.Total.{Total}
use Rattle.rx_log.specs.declared.standing.Standing.TheVariants.{Counts, Void}
use Rattle.rx_log.specs.declared.entry.Entry.TheVariants.{Own}
use Rattle.rx_log.specs.Logs.{◌▹◌, counts, holder_at}
use Rattle.rx_log.specs.Totals.{known}
use Rattle.rx_log.specs.Terms.{with_number}
use Rattle.rx_log.specs.Rules.{RuleState, StandsFor, Notes}
use Rattle.rx_log.proofs.Following.{own-follows, void-follows}
use Rattle.rx_log.proofs.rule.Rule.step_own.Goals as goal

pub returns-in_default-clause-ok : goal.returns-in_default-clause-ok
returns-in_default-clause-ok c = λ L note is stands.
    let void = c.in_default.ensures.none L stands in
    record {
      stands_is = sym (cond-false (counts c.args.self.now.span L c.args.tenure c.args.number) _ Void void);
      goes_on = subst (λ (rule : RuleState). StandsFor (record rule { at = rule.at + 1 }) (L ▹ Own c.args.tenure c.args.number note)) (sym c.self.view_is)
          (void-follows c.args.self.now L c.args.tenure c.args.number note stands void);
    }

pub returns-clause-ok : goal.returns-clause-ok
returns-clause-ok c = λ L note is stands.
    let some = c.in-Some.ensures.some L stands in
    let total_is = ap (λ (rule : RuleState). rule.total) c.self.view_is ∙ stands.total_is in
    let made : Counts (Some c.in-Some.by) c.self.inside.total ≡ Counts (holder_at c.args.tenure L) (known c.args.self.now.span L) =
    ap (λ (o : Option Holder). Counts o c.self.inside.total) (sym some.1) ∙ ap (λ (o : Option Total). Counts (holder_at c.args.tenure L) o) total_is in
    record {
      stands_is = made ∙ sym (cond-true (counts c.args.self.now.span L c.args.tenure c.args.number) _ Void some.0);
      goes_on = own-follows c.args.self.now c.note.new.self _ L c.args.tenure c.args.number note stands some.0
          (subst (Notes c.args.self.now c.note.new.self) (sym is) c.in_ok-note.ensures.ok)
          (ap (λ (terms : List Term). record {
            span = c.self-2.inside.span;
            begun = c.self-2.inside.begun;
            at = c.self-2.inside.at;
            terms = terms;
            total = c.self-2.inside.total;
            recent = c.self-2.inside.recent.items;
          }) c.count.ensures
          ∙ ap (λ (rule : RuleState). record rule { terms = map (with_number c.args.tenure c.args.number) rule.terms }) c.self-2.view_is);
    }
