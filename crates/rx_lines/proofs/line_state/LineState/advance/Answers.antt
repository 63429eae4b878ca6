use Rattle.std.proofs.Common.{[], length, ◌∙◌, refl, arith, length-drop, ◌+◌, ap}
use Rattle.rx_lines.specs.Reads.{Sheds}
use Rattle.rx_lines.specs.Steps.{unread}
use Rattle.rx_lines.specs.Windows.{HasLfAt}
use Rattle.rx_lines.proofs.Stepping.{none_from, TakesLine-long, TakesNoLine-shed, TakesStep-end, TakesStep-line, Advances-line}
use Rattle.rx_lines.proofs.line_state.LineState.advance.Goals as goal

pub returns-in-Lf-clause-advances : goal.returns-in-Lf-clause-advances
returns-in-Lf-clause-advances g c =
    let f = c.in-Lf.ensures.found in
    let same = c.step_at.ensures.window in
    let still_open = none_from _ c.in_default.not-Some in
    let shed : Sheds (g.R.Read.remaining c.args.reader.now) (g.R.Read.remaining c.next_lf.new.reader) (unread c.args.self.now) c.step_at.new.self.window [] =
    rw (same, ← c.let_go.ensures.window) f.0 in
    let at : HasLfAt c.step_at.new.self.window c.in-Lf.len = rw same f.1 in
    Advances-line c.step_at.result _ _ c.args.self.now c.step_at.new.self still_open
    (TakesStep-line c.step_at.result _ _ c.args.self.now c.step_at.new.self c.in-Lf.len shed at c.step_at.ensures.step c.step_at.ensures.taken
    (c.step_at.ensures.end ∙ c.let_go.ensures.end ∙ still_open)
    (omega (arith, f.2, ap length same, ap length c.let_go.ensures.window, c.step_at.ensures.reads, c.let_go.ensures.reads)))

pub returns-in-LongLf-clause-advances : goal.returns-in-LongLf-clause-advances
returns-in-LongLf-clause-advances g c =
    let f = c.in-LongLf.ensures.found in
    let still_open = none_from _ c.in_default.not-Some in
    let takes = TakesLine-long _ _ _ _ f.0 c.in-LongLf.len f.1 f.2 f.3 in
    rw still_open (
      rw c.let_go.ensures.window at takes,
      record {
        no_end = c.let_go.ensures.end ∙ still_open;
        fewer = omega (arith, f.3.within, f.4, length-drop (c.in-LongLf.len + 1) c.next_lf.new.window, ap length c.let_go.ensures.window, c.let_go.ensures.reads);
      },
    )

pub returns-in-End-clause-advances : goal.returns-in-End-clause-advances
returns-in-End-clause-advances g c =
    let f = c.in-End.ensures.found in
    let none = TakesNoLine-shed _ _ _ _ f.0 f.1 f.2 in
    rw (none_from _ c.in_default.not-Some, c.told_end-in-End.ensures) (TakesStep-end c.in-End.end _ _ _ _ (rw c.let_go.ensures.window at none) refl f.3)
