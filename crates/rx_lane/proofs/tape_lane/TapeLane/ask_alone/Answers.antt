use Rattle.std.proofs.Common.{◌+◌, ◌++◌, map, take, option_to_list, ap, ◌∙◌}
use Rattle.rx_note.specs.declared.note.Note.TheVariants.{Next}
use Rattle.rx_tape.specs.Tapes.{waits}
use Rattle.rx_lane.specs.TapeLanes.{TapeLaneState}
use Rattle.rx_lane.proofs.Shared.{put_behind}
use Rattle.rx_lane.proofs.tape_lane.TapeLane.ask_alone.Goals as goal

pub returns-clause-gives : goal.returns-clause-gives
returns-clause-gives c =
    let w = c.args.self.now in
    let notes = map Next (take c.released-items.result (waits w.lead c.args.tape.now.items w.back)) in
    let last = option_to_list c.in-Ok-move_out.last in (
      notes ++ last,
      put_behind c.args.who c.args.outs.now.items c.reserve.new.self.items c.move_out.new.outs.items c.put_last.new.outs.items notes last
          c.reserve.ensures.items c.in-Ok-move_out.ensures.put c.put_last.ensures,
      c.in-Ok-move_out.ensures.gives c.args.n (c.in_ok-owed.ensures.owed ∙ ap (λ (lane : TapeLaneState). lane.owing + c.args.n) c.self.view_is),
    )

pub returns-clause-stands : goal.returns-clause-stands
returns-clause-stands c = c.in-Ok-move_out.ensures.goes_on c.args.n (c.in_ok-owed.ensures.owed ∙ ap (λ (lane : TapeLaneState). lane.owing + c.args.n) c.self.view_is)
