use Rattle.std.proofs.Common.{◌++◌, List, map, take, subst, ap, ◌∙◌}
use Rattle.rx_note.specs.declared.item.Item.{Item}
use Rattle.rx_note.specs.declared.note.Note.TheVariants.{Next}
use Rattle.rx_tape.specs.Tapes.{waits}
use Rattle.rx_lane.specs.TapeLanes.{lane_on, Begins}
use Rattle.rx_lane.proofs.tape_lane.TapeLane.new.Goals as goal

pub returns-clause-begins : goal.returns-clause-begins
returns-clause-begins c =
    let a = c.args in
    let count = c.min-given.result in
    let same = c.in_ok-cursor.ensures.moves.spares.items in (
      map Next (take count (waits a.lead a.tape.now.items a.back)),
      c.in-Ok.ensures.ok ∙ ap (λ (ys : List Item). a.outs.now.items ++ map Next (take count (waits a.lead ys a.back))) same,
      subst (λ (ys : List Item). Begins (lane_on c.opened.new.tape.items c.opened.result) a.policy a.first (waits a.lead ys a.back) (map Next (take count (waits a.lead ys a.back)))) same c.opened.ensures.begins,
    )
