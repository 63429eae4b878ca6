use Rattle.std.proofs.Common.{sym, subst}
use Rattle.rx_note.specs.declared.note.Note.{Note}
use Rattle.rx_hub.specs.Emissions.{delivery, Admits}
use Rattle.rx_hub.proofs.Outcomes.{on_ok}
use Rattle.rx_hub.proofs.audience.Audience.admit.Goals as goal

pub returns-in-Next-clause-admits : goal.returns-in-Next-clause-admits
returns-in-Next-clause-admits c =
    let old = delivery c.args.subject.now c.args.self.now c.args.outs.now.items in
    let new = delivery c.admit_item.new.subject c.admit_item.new.self c.admit_item.new.outs.items in
    on_ok c.admit_item.result
    (λ admits.
    subst (λ (note : Note). Admits old new (record { port = c.args.emission.port; note = note; at = c.args.emission.at })) (sym c.in-Next.is)
    (admits c.in-Next.field-0.from c.in-Next.field-0.place))
    c.admit_item.ensures.admits
