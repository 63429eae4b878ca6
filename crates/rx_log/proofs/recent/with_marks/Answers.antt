use Rattle.std.proofs.Common.{◌≡◌, ◌+◌, ◌++◌, ◌∷◌, [], cond, take, sym, ap, ◌∙◌, arith}
use Rattle.std.specs.Prelude.{nat_le}
use Rattle.std.proofs.lemmas.Bool.{le-leb, lt-leb, cond-true, cond-false}
use Rattle.std.proofs.lemmas.List.{take_more}
use Rattle.rx_log.specs.declared.total.Total.{Total}
use Rattle.rx_log.specs.declared.mark.Mark.{Mark}
use Rattle.rx_log.specs.Totals.{with_note}
use Rattle.rx_log.specs.Rules.{with_marks}
use Rattle.rx_log.proofs.Marks.{with_marks-push}
use Rattle.rx_log.proofs.Totals.{items-with_note}
use Rattle.rx_log.proofs.recent.with_marks.Goals as goal
use Rattle.rx_log.proofs.recent.with_marks.Goals.{then-mark-base, else-mark-base}

pub loop-i-preserved : goal.loop-i-preserved
loop-i-preserved c =
    let marks = c.args.recent.now.items in
    let i = c.loop-i.i in
    let mark = c.index-mark.result.now in
    let base = c.args.base in
    let before = with_marks base c.args.told (take i marks) in
    let more : with_marks base c.args.told (take (i + 1) marks) ≡ cond (nat_le mark.place base) before (with_note before mark.ends) =
    ap (with_marks base c.args.told) (take_more marks i mark (omega (arith, c.loop-i-test.true, c.len-i-end.ensures))
    ∙ ap (λ (m : Mark). take i marks ++ m ∷ []) (sym c.index-mark.ensures))
    ∙ with_marks-push base c.args.told (take i marks) mark in
    elim c.if-mark-base.branch [
      | then-mark-base w ↦ (
        w.total-is ∙ w.with_note-total.ensures ∙ ap (λ (t : Total). with_note t mark.ends) c.loop-i.invariant.0
            ∙ sym (more ∙ cond-false (nat_le mark.place base) before (with_note before mark.ends) (lt-leb mark.place base w.if-mark-base.true)),
        omega (arith, ap (λ (t : Total). t.items) (w.total-is ∙ w.with_note-total.ensures), items-with_note c.loop-i.total mark.ends, c.loop-i.invariant.1),
      )
      | else-mark-base w ↦ (
        w.total-is ∙ c.loop-i.invariant.0 ∙ sym (more ∙ cond-true (nat_le mark.place base) before (with_note before mark.ends) (le-leb mark.place base w.if-mark-base.false)),
        omega (arith, ap (λ (t : Total). t.items) w.total-is, c.loop-i.invariant.1),
      )
    ]
