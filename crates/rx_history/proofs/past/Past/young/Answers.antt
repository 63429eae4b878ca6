-- Each item is looked at once, and is kept where its age is below the bound.
use Rattle.std.proofs.Common.{◌≡◌, ◌-◌, [], ◌∷◌, ◌++◌, take, ap, sym, ◌∙◌}
use Rattle.rx_history.specs.Histories.{unstamped, is_young, young}
use Rattle.rx_history.proofs.Remembering.{young_joins, young_passes}
use Rattle.rx_history.proofs.past.Past.young.Goals.{then-is_young+in_ok-copy+in_ok-push, else-is_young}
use Rattle.rx_history.proofs.past.Past.young.Goals as goal

pub loop-stamped-preserved : goal.loop-stamped-preserved
loop-stamped-preserved c =
    let past = c.args.self.now in
    let each = c.stamped-item.result in
    let within = rw c.deref-stamped-items.ensures.value at c.loop-stamped-test.true in
    let here = rw c.deref-stamped-items.ensures.value at c.stamped-item.is in
    let told : is_young c.args.bound (past.moment - each.1) ≡ c.is_young.result = ap (is_young c.args.bound) (sym c.saturating_sub.ensures) ∙ sym c.is_young.ensures in
    elim c.if-is_young.branch [
      | then-is_young+in_ok-copy+in_ok-push w ↦
          ap (λ items. items.items) w.items-is ∙ w.in_ok-push.ensures.items ∙ ap (λ items. items ++ w.in_ok-copy.field-0 ∷ []) c.loop-stamped.invariant
          ∙ ap (λ item. unstamped (young c.args.bound past.moment (take c.loop-stamped.stamped-index past.items.items)) ++ item ∷ []) w.in_ok-copy.ensures
          ∙ sym (young_joins c.args.bound past.moment past.items.items c.loop-stamped.stamped-index each within here (told ∙ w.if-is_young.true))
      | else-is_young w ↦
          ap (λ items. items.items) w.items-is ∙ c.loop-stamped.invariant
          ∙ sym (young_passes c.args.bound past.moment past.items.items c.loop-stamped.stamped-index each within here (told ∙ w.if-is_young.false))
    ]
