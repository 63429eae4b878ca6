use Rattle.std.proofs.Common.{◌++◌, Option, option_to_list, refl, subst, ◌∙◌}
use Rattle.rx_note.specs.declared.note.Note.{Note}
use Rattle.rx_history.specs.Histories.{ended_by}
use Rattle.rx_hub.specs.Seats.{lane_of}
use Rattle.rx_hub.specs.Subscriptions.{Serves}
use Rattle.rx_hub.proofs.Serving.{Serves-then, given-then}
use Rattle.rx_hub.proofs.subscription.Subscription.feed.Goals as goal

pub returns-clause-fed : goal.returns-clause-fed
returns-clause-fed c = λ items tape_is.
    let first = option_to_list c.offer_to-note.result in
    let then = option_to_list c.end_by-note.result in
    let ready = c.requires.ready in
    let copied = c.take-copy.ensures.value ∙ ready.item in
    let ended = subst (λ (end : Option Note). Serves (lane_of c.offer_to-note.new.tape.items c.offer_to-note.new.seat) (lane_of c.end_by-note.new.tape.items c.end_by-note.new.seat) (ended_by end) then)
    (c.take-end.ensures.value ∙ ready.end) c.end_by-note.ensures.serves in (
      first ++ then,
      given-then c.args.outs.now.items c.put.new.outs.items c.put-2.new.outs.items c.args.self.now.who first then c.put.ensures.items c.put-2.ensures.items,
      record {
        number = refl;
        serves = Serves-then _ _ _ _ _ _ _ (c.offer_to-note.ensures.serves items tape_is copied) ended;
      },
    )
