use Rattle.std.proofs.Common.{◌+◌, ◌∷◌, [], ◌++◌, drop, sym, ap, ◌∙◌, append_assoc, arith}
use Rattle.std.proofs.lemmas.List.{drop_more}
use Rattle.std.proofs.lemmas.Option.{get_or_from_slice_get}
use Rattle.rx_subject.proofs.subject.copied.Goals as goal

pub loop-place-preserved : goal.loop-place-preserved
loop-place-preserved c =
    let xs = c.args.tape.now.items in
    let k = c.loop-place.place in
    let item = c.in-Some.item.now in
    let before = c.loop-place.items.items in
    let rest = drop (k + 1) xs in
    let next = drop_more xs k item (omega (arith, c.loop-place-test.true, c.len-place-end.ensures.len)) ∙ ap (λ x. x ∷ rest) (get_or_from_slice_get xs k item item (sym c.in-Some.ensures)) in
    ap (λ items. items ++ rest) c.in_ok-push.ensures.items
    ∙ append_assoc before (c.in_ok-copy.field-0 ∷ []) rest
    ∙ ap (λ x. before ++ x ∷ rest) c.in_ok-copy.ensures
    ∙ ap (λ left. before ++ left) (sym next)
    ∙ c.loop-place.invariant
