use Rattle.std.proofs.Common.{◌∷◌, [], ◌++◌, take, sym, ap, ◌∙◌, arith}
use Rattle.std.proofs.lemmas.List.{take_more}
use Rattle.rx_tape.specs.Tapes.{lowest, lower_of}
use Rattle.rx_tape.proofs.Lows.{lowest-more}
use Rattle.rx_tape.proofs.places.lowest_in.Goals as goal

pub loop-number-preserved : goal.loop-number-preserved
loop-number-preserved c =
    let places = c.args.slots.now.items in
    let i = c.loop-number.number in
    let next = c.index.result.now in
    c.lower-low.ensures
    ∙ ap (λ low. lower_of next low) c.loop-number.invariant
    ∙ sym (lowest-more (take i places) next c.args.bound)
    ∙ ap (λ front. lowest front c.args.bound)
    (ap (λ place. take i places ++ place ∷ []) c.index.ensures
    ∙ sym (take_more places i next (omega (arith, c.loop-number-test.true, c.len-number-end.ensures))))
