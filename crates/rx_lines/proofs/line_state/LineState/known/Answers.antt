use Rattle.std.proofs.Common.{ℕ, List, ◌∙◌, subst, sym}
use Rattle.rx_lines.specs.Windows.{HasLfAt}
use Rattle.rx_lines.proofs.Stepping.{not_some, LooksInHand-line}
use Rattle.rx_lines.proofs.line_state.LineState.known.Goals as goal

pub returns-in-Some-clause-knows : goal.returns-in-Some-clause-knows
returns-in-Some-clause-knows c =
    let same = c.step_at.ensures.window in
    let at : HasLfAt c.step_at.new.self.window c.in-Some.len = subst (λ (w : List ℕ). HasLfAt w c.in-Some.len) (sym same) c.in-Some.ensures.found in
    LooksInHand-line c.step_at.result c.args.self.now c.step_at.new.self c.in-Some.len (not_some c.args.self.now.end (sym c.is_some.ensures ∙ c.if-is_some.false))
    (same ∙ c.find_lf.ensures.kept ∙ c.let_go.ensures.window) at c.step_at.ensures.step c.step_at.ensures.taken
    (c.step_at.ensures.end ∙ c.let_go.ensures.end) (c.step_at.ensures.reads ∙ c.let_go.ensures.reads)
