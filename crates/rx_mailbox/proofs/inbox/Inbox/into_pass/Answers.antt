use Rattle.std.proofs.Common.{◌∙◌, sym, subst}
use Rattle.rx_mailbox.specs.Boxes.{Incoming, HasEachBye}
use Rattle.rx_mailbox.proofs.Hands.{empty_handed, none_in_hand}
use Rattle.rx_mailbox.proofs.inbox.Inbox.into_pass.Goals as goal

pub returns-clause-pass : goal.returns-clause-pass
returns-clause-pass g c =
    let inlet = c.self.inside.inlet in
    let hand = c.self.inside.hand.items in
    let none = empty_handed inlet c.self.inside.from hand c.self.invariant.0 (subst (λ (i : Incoming _). HasEachBye i) (sym c.self.view_is) c.requires.each_bye) in
    c.into_pass.ensures.pass ∙ sym (none_in_hand inlet hand none) ∙ c.self.view_is
