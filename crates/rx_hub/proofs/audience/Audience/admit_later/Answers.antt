-- An item that the subject keeps back is offered to nobody.
use Rattle.std.proofs.Common.{◌≤◌, ℕ, List, length, sym, subst}
use Rattle.rx_hub.proofs.Admitting.{none_fed_into}
use Rattle.rx_hub.proofs.audience.Audience.admit_later.Goals as goal

pub returns-then-keeps_back-clause-admits : goal.returns-then-keeps_back-clause-admits
returns-then-keeps_back-clause-admits c = λ from place.
    let items = c.args.self.now.items in
    record {
      stands = λ rules H room stands. c.keep_back.ensures.stands items from place rules H room stands;
      fed = none_fed_into _ c.args.self.now.observers c.args.outs.now.items (c.keep_back.ensures.offers items from place);
      within = subst (λ (stamps : List ℕ). length stamps ≤ length items) (sym c.keep_back.ensures.stamps) c.requires.open.stamps;
      kind = c.keep_back.ensures.kind;
    }
