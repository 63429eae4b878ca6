use Rattle.std.proofs.Common.{◌<◌, length, slice_set, ap, ◌∙◌, arith}
use Rattle.std.proofs.lemmas.List.Edits.{map_over_more}
use Rattle.rx_log.specs.declared.term.Term.{Term}
use Rattle.rx_log.specs.Terms.{with_number}
use Rattle.rx_log.proofs.terms.count.Goals as goal

pub loop-i-preserved : goal.loop-i-preserved
loop-i-preserved c =
    let old = c.args.terms.now.items in
    let within : c.loop-i.i < length old = omega (arith, c.loop-i-test.true, c.len-i-end.ensures) in
    ap (λ (term : Term). slice_set c.loop-i.terms.items c.loop-i.i term) c.with_number.ensures
    ∙ map_over_more (with_number c.args.tenure c.args.number) old c.loop-i.terms.items c.loop-i.i c.index.result.now within c.loop-i.invariant c.index.ensures
