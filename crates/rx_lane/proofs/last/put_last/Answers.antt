-- A terminal is put at the end, addressed to the observer.
use Rattle.std.proofs.Common.{Option, ◌++◌, option_to_list, sym, ap, ◌∙◌}
use Rattle.rx_note.specs.declared.note.Note.{Note}
use Rattle.rx_lane.specs.Lanes.{addressed}
use Rattle.rx_lane.proofs.last.put_last.Goals as goal

pub returns-in-Some : goal.returns-in-Some
returns-in-Some c =
    c.push_reserved.ensures.items
    ∙ ap (λ (o : Option Note). c.args.outs.now.items ++ addressed c.args.who (option_to_list o)) (sym c.in-Some.is)
