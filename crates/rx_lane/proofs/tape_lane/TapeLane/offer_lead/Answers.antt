use Rattle.std.proofs.Common.{◌≡◌, ◌∷◌, ℕ, Option, None, refl, sym, ap, ◌∙◌, arith}
use Rattle.rx_note.specs.declared.item.Item.{Item}
use Rattle.rx_note.specs.Queues.{queued}
use Rattle.rx_lane.specs.TapeLanes.{TapeLaneState, lane_on}
use Rattle.rx_tape.specs.Tapes.{waits, last_items}
use Rattle.rx_lane.proofs.Steps.{is_open, offer_now, offer_later}
use Rattle.rx_lane.proofs.Followed.{shared_open, stands_on, stands_alike, queued_first, shared_fits}
use Rattle.rx_tape.proofs.Lasts.{none_back}
use Rattle.rx_lane.proofs.tape_lane.TapeLane.offer_lead.Goals as goal

pub returns-then-self-gt0-clause-gives : goal.returns-then-self-gt0-clause-gives
returns-then-self-gt0-clause-gives c = λ items s st.
    (offer_now _ c.args.item c.if-self-gt0.true s (stands_on items c.self.view_is st) (is_open (lane_on items c.args.self.now) s (shared_open c.args.self.now c.self.inside.policy c.requires.open (ap (λ (v : TapeLaneState). v.policy) c.self.view_is) c.self.invariant) st)).gives

pub returns-then-self-gt0-clause-stands : goal.returns-then-self-gt0-clause-stands
returns-then-self-gt0-clause-stands c = λ items s st.
    (offer_now _ c.args.item c.if-self-gt0.true s (stands_on items c.self.view_is st) (is_open (lane_on items c.args.self.now) s (shared_open c.args.self.now c.self.inside.policy c.requires.open (ap (λ (v : TapeLaneState). v.policy) c.self.view_is) c.self.invariant) st)).stands

pub returns-clause-gives : goal.returns-clause-gives
returns-clause-gives c = λ items s st.
    (offer_later _ c.args.item (omega (arith, c.if-self-gt0.false)) (shared_fits c.self.inside.policy.strategy _ c.self.invariant) s (stands_on items c.self.view_is st) (is_open (lane_on items c.args.self.now) s (shared_open c.args.self.now c.self.inside.policy c.requires.open (ap (λ (v : TapeLaneState). v.policy) c.self.view_is) c.self.invariant) st)).gives

pub returns-clause-stands : goal.returns-clause-stands
returns-clause-stands c = λ items s st.
    let t = c.self.inside in
    let g = t.policy.strategy in
    let lead_none : t.waiting.lead ≡ None = ap (λ (v : TapeLaneState). v.lead) c.self.view_is ∙ c.requires.none_waits.0 in
    let back_none : t.waiting.back ≡ 0 = ap (λ (v : TapeLaneState). v.back) c.self.view_is ∙ c.requires.none_waits.1 in
    let none = ap (λ (lead : Option Item). waits lead items t.waiting.back) lead_none ∙ ap (λ (back : ℕ). last_items items back) back_none ∙ none_back items in
    let one = ap (λ (back : ℕ). c.args.item ∷ last_items items back) back_none ∙ ap (λ rest. c.args.item ∷ rest) (none_back items) in
    let same = one ∙ sym (queued_first g c.args.item c.self.invariant) ∙ ap (λ before. queued g before c.args.item) (sym none) in
    stands_alike refl same refl refl refl (offer_later _ c.args.item (omega (arith, c.if-self-gt0.false)) (shared_fits c.self.inside.policy.strategy _ c.self.invariant) s (stands_on items c.self.view_is st) (is_open (lane_on items c.args.self.now) s (shared_open c.args.self.now c.self.inside.policy c.requires.open (ap (λ (v : TapeLaneState). v.policy) c.self.view_is) c.self.invariant) st)).stands
