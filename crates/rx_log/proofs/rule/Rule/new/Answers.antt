use Rattle.std.proofs.Common.{◌≡◌, ◌==◌, Some, None, cond, sym, ap, ◌∙◌}
use Rattle.std.proofs.lemmas.Bool.{eq-eqb, ne_eqb, cond-true, cond-false}
use Rattle.rx_log.specs.declared.total.Total.{Total}
use Rattle.rx_log.specs.Totals.{nothing}
use Rattle.rx_log.proofs.Following.{stands-new}
use Rattle.rx_log.proofs.rule.Rule.new.Goals as goal
use Rattle.rx_log.proofs.rule.Rule.new.Goals.{then-begun-eq0, else-begun-eq0}

pub returns-clause-stands : goal.returns-clause-stands
returns-clause-stands c =
    let n = c.args.begun in
    let total_is : c.if-begun-eq0.total ≡ cond (n == 0) (Some nothing) None =
    elim c.if-begun-eq0.branch [
      | then-begun-eq0 w ↦ w.total-is ∙ ap (λ (t : Total). Some t) w.nothing.ensures ∙ sym (cond-true (n == 0) (Some nothing) None (eq-eqb n 0 w.if-begun-eq0.true))
      | else-begun-eq0 w ↦ w.total-is ∙ sym (cond-false (n == 0) (Some nothing) None (ne_eqb n 0 w.if-begun-eq0.false))
    ] in
    stands-new c.args.span n c.new.result.items c.if-begun-eq0.total c.new-2.result.items c.new.ensures.items c.new-2.ensures.items total_is
