use Rattle.std.proofs.Common.{sym, ◌∙◌, arith}
use Rattle.rx_lane.proofs.Steps.{stands_as, is_open, offer_later}
use Rattle.rx_lane.proofs.lane.Lane.offer.Goals as goal

pub returns-clause-gives : goal.returns-clause-gives
returns-clause-gives c = λ s st.
    (offer_later _ c.args.item (omega arith) (sym c.overflows.ensures ∙ c.if-overflows.false) s (stands_as c.self.view_is st) (is_open c.args.self.now.state s c.requires.open st)).gives

pub returns-clause-stands : goal.returns-clause-stands
returns-clause-stands c = λ s st.
    rw (c.push.ensures.items, c.push.ensures.strategy) (offer_later _ c.args.item (omega arith) (sym c.overflows.ensures ∙ c.if-overflows.false) s (stands_as c.self.view_is st) (is_open c.args.self.now.state s c.requires.open st)).stands

pub returns-then-self-gt0-clause-stands : goal.returns-then-self-gt0-clause-stands
returns-then-self-gt0-clause-stands c = c.pass.ensures.stands c.args.item
