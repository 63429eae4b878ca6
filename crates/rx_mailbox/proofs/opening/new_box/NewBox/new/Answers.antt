use Rattle.std.proofs.Common.{rules, ◌≡◌, [], false, refl}
use Rattle.std.proofs.Math.ListN.{replicate}
use Rattle.rx_mailbox.specs.declared.channel.rule.View.TheVariants.{Receives}
use Rattle.rx_mailbox.proofs.Steps.{begins}
use Rattle.rx_mailbox.proofs.Tally.{first_tally}
use Rattle.rx_mailbox.proofs.opening.new_box.NewBox.new.Goals as goal

pub bounded_with-requires-clause-rule : goal.bounded_with-requires-clause-rule
bounded_with-requires-clause-rule g c = begins

pub returns-clause-tally : goal.returns-clause-tally
returns-clause-tally g c =
    let none : c.in_ok-byes.byes.items ≡ replicate c.args.senders false = search rules in
    (first_tally c.in_ok-byes.byes.items c.args.senders (Receives c.args.senders [] []) none refl).1
