use Rattle.std.proofs.Common.{◌+◌, List, ◌++◌, map, take, option_to_list, ap, ◌∙◌}
use Rattle.rx_note.specs.declared.note.Note.{Note}
use Rattle.rx_note.specs.declared.note.Note.TheVariants.{Next}
use Rattle.rx_tape.specs.Tapes.{waits}
use Rattle.rx_lane.specs.Lanes.{addressed}
use Rattle.rx_lane.specs.TapeLanes.{TapeLaneState}
use Rattle.rx_lane.proofs.Shared.{put_behind}
use Rattle.rx_lane.proofs.tape_lane.TapeLane.ask_for.Goals as goal

pub returns-clause-gives : goal.returns-clause-gives
returns-clause-gives c =
    let who = c.args.who in
    let room = c.reserve.new.self.items in
    let released : TapeLaneState → List Note = λ lane. map Next (take c.released-items.result (waits lane.lead c.args.tape.now.items lane.back)) in
    let notes = released c.args.self.now in
    let last = option_to_list c.release-last.result in (
      notes ++ last,
      put_behind who c.args.outs.now.items room c.copy_to.new.outs.items c.put_last.new.outs.items notes last
          c.reserve.ensures.items
          (c.in-Ok-copy_to.ensures.ok ∙ ap (λ (lane : TapeLaneState). room ++ addressed who (released lane)) c.self.view_is)
          c.put_last.ensures,
      c.release-last.ensures.gives c.args.n (c.in_ok-owed.ensures.owed ∙ ap (λ (lane : TapeLaneState). lane.owing + c.args.n) c.self.view_is),
    )

pub returns-clause-stands : goal.returns-clause-stands
returns-clause-stands c = c.release-last.ensures.goes_on c.args.n (c.in_ok-owed.ensures.owed ∙ ap (λ (lane : TapeLaneState). lane.owing + c.args.n) c.self.view_is)
