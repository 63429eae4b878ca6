use Rattle.std.proofs.Common.{◌+◌, List, ◌++◌, ◌∷◌, [], map, take, ap, ◌∙◌, append_assoc}
use Rattle.rx_note.specs.declared.note.Note.{Note}
use Rattle.rx_note.specs.declared.note.Note.TheVariants.{Next}
use Rattle.rx_tape.specs.Tapes.{waits}
use Rattle.rx_lane.specs.TapeLanes.{TapeLaneState}
use Rattle.rx_lane.proofs.tape_lane.TapeLane.ask.Goals as goal

pub returns-in-Some-clause-gives : goal.returns-in-Some-clause-gives
returns-in-Some-clause-gives c =
    let released : TapeLaneState → List Note = λ lane. map Next (take c.released-items.result (waits lane.lead c.args.tape.now.items lane.back)) in
    let notes = released c.args.self.now in
    let last = c.in-Some.note ∷ [] in (
      notes ++ last,
      c.push_reserved.ensures.items
          ∙ ap (λ put. put ++ last) c.in-Ok-copy_out.ensures.ok
          ∙ ap (λ (lane : TapeLaneState). (c.reserve.new.self.items ++ released lane) ++ last) c.self.view_is
          ∙ ap (λ put. (put ++ notes) ++ last) c.reserve.ensures.items
          ∙ append_assoc c.args.outs.now.items notes last,
      c.in-Some.ensures.gives c.args.n (c.in_ok-owed.ensures.owed ∙ ap (λ (lane : TapeLaneState). lane.owing + c.args.n) c.self.view_is),
    )

pub returns-in-Some-clause-stands : goal.returns-in-Some-clause-stands
returns-in-Some-clause-stands c = c.in-Some.ensures.goes_on c.args.n (c.in_ok-owed.ensures.owed ∙ ap (λ (lane : TapeLaneState). lane.owing + c.args.n) c.self.view_is)

pub returns-in_default-release-clause-stands : goal.returns-in_default-release-clause-stands
returns-in_default-release-clause-stands c = c.in_default-release.ensures.goes_on c.args.n (c.in_ok-owed.ensures.owed ∙ ap (λ (lane : TapeLaneState). lane.owing + c.args.n) c.self.view_is)
