use Rattle.std.proofs.Common.{◌≡◌, ◌<◌, ◌+◌, ◌-◌, ◌∷◌, [], ◌++◌, length, take, drop, get_or, option_to_list, sym, ap, ◌∙◌, append_assoc, arith}
use Rattle.std.specs.Prelude.{slice_get}
use Rattle.std.proofs.lemmas.List.{take_more, get_or-drop, length-drop}
use Rattle.std.proofs.lemmas.Option.{get_or_from_slice_get}
use Rattle.rx_note.specs.declared.item.Item.{Item}
use Rattle.rx_hub.proofs.seat.last_copies.Goals as goal

pub loop-place-preserved : goal.loop-place-preserved
loop-place-preserved c =
    let xs = c.args.tape.now.items in
    let n = length xs - c.args.back in
    let i = c.loop-place.place in
    let item = c.in-Some.item.now in
    let left = length-drop n xs in
    let same : c.len.result - c.args.back + i ≡ n + i = omega (arith, c.len.ensures.len) in
    let lt : i < length (drop n xs) = omega (arith, left, c.requires, c.loop-place-test.true) in
    let is : get_or xs (n + i) item ≡ item = get_or_from_slice_get xs (n + i) item item (ap (slice_get xs) (sym same) ∙ sym c.in-Some.ensures) in
    let at : get_or (drop n xs) i item ≡ item = grind (arith, get_or-drop) in
    let more : take (i + 1) (drop n xs) ≡ take i (drop n xs) ++ item ∷ [] = take_more (drop n xs) i item lt ∙ ap (λ (x : Item). take i (drop n xs) ++ x ∷ []) at in
    c.in_ok-push.ensures.items
    ∙ ap (λ (x : Item). c.loop-place.items.items ++ x ∷ []) c.in_ok-copy.ensures
    ∙ ap (λ ys. ys ++ item ∷ []) c.loop-place.invariant
    ∙ append_assoc (option_to_list c.args.lead) (take i (drop n xs)) (item ∷ [])
    ∙ ap (λ ys. option_to_list c.args.lead ++ ys) (sym more)
