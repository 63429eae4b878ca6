use Rattle.std.proofs.Common.{ℕ, Option, refl, sym, ap, ◌∙◌, arith}
use Rattle.rx_note.specs.declared.item.Item.{Item}
use Rattle.rx_note.specs.declared.errors.Errors.{Errors}
use Rattle.rx_note.specs.Signals.{goes_ahead}
use Rattle.rx_lane.specs.TapeLanes.{TapeLaneState, lane_on}
use Rattle.rx_tape.specs.Tapes.{waits, last_items}
use Rattle.rx_tape.proofs.Lasts.{waits-length}
use Rattle.rx_lane.proofs.Steps.{is_open, end_first, end_now, end_later}
use Rattle.rx_lane.proofs.Followed.{shared_open, stands_on, stands_alike}
use Rattle.rx_tape.proofs.Lasts.{none_back}
use Rattle.rx_lane.proofs.tape_lane.TapeLane.end.Goals as goal

pub returns-then-goes_ahead-clause-gives : goal.returns-then-goes_ahead-clause-gives
returns-then-goes_ahead-clause-gives c = λ items within s st.
    let ahead = sym c.goes_ahead.ensures ∙ c.if-goes_ahead.true in
    (end_first _ c.args.note (ap (λ (e : Errors). goes_ahead e c.args.note) (sym c.errors.ensures) ∙ ahead) s (stands_on items c.self.view_is st) (is_open (lane_on items c.args.self.now) s (shared_open c.args.self.now c.self.inside.policy c.requires (ap (λ (v : TapeLaneState). v.policy) c.self.view_is) c.self.invariant) st)).gives

pub returns-then-goes_ahead-clause-stands : goal.returns-then-goes_ahead-clause-stands
returns-then-goes_ahead-clause-stands c = λ items within s st.
    let ahead = sym c.goes_ahead.ensures ∙ c.if-goes_ahead.true in
    let none =
    ap (λ (lead : Option Item). waits lead items c.clear.new.self.back) c.clear.ensures.lead
    ∙ ap (λ (back : ℕ). last_items items back) c.clear.ensures.back
    ∙ none_back items in
    stands_alike refl none refl refl refl (end_first _ c.args.note (ap (λ (e : Errors). goes_ahead e c.args.note) (sym c.errors.ensures) ∙ ahead) s (stands_on items c.self.view_is st) (is_open (lane_on items c.args.self.now) s (shared_open c.args.self.now c.self.inside.policy c.requires (ap (λ (v : TapeLaneState). v.policy) c.self.view_is) c.self.invariant) st)).stands

pub returns-then-len-eq0-clause-gives : goal.returns-then-len-eq0-clause-gives
returns-then-len-eq0-clause-gives c = λ items within s st.
    let behind = sym c.goes_ahead.ensures ∙ c.if-goes_ahead.false in
    let there = ap (λ (v : TapeLaneState). v.back) c.self.view_is in
    let long = waits-length c.self.inside.waiting.lead items c.self.inside.waiting.back (λ some. omega (arith, within, there)) in
    (end_now _ c.args.note (ap (λ (e : Errors). goes_ahead e c.args.note) (sym c.errors.ensures) ∙ behind) (omega (arith, long, c.len.ensures, c.if-len-eq0.true)) s (stands_on items c.self.view_is st) (is_open (lane_on items c.args.self.now) s (shared_open c.args.self.now c.self.inside.policy c.requires (ap (λ (v : TapeLaneState). v.policy) c.self.view_is) c.self.invariant) st)).gives

pub returns-then-len-eq0-clause-stands : goal.returns-then-len-eq0-clause-stands
returns-then-len-eq0-clause-stands c = λ items within s st.
    let behind = sym c.goes_ahead.ensures ∙ c.if-goes_ahead.false in
    let there = ap (λ (v : TapeLaneState). v.back) c.self.view_is in
    let long = waits-length c.self.inside.waiting.lead items c.self.inside.waiting.back (λ some. omega (arith, within, there)) in
    (end_now _ c.args.note (ap (λ (e : Errors). goes_ahead e c.args.note) (sym c.errors.ensures) ∙ behind) (omega (arith, long, c.len.ensures, c.if-len-eq0.true)) s (stands_on items c.self.view_is st) (is_open (lane_on items c.args.self.now) s (shared_open c.args.self.now c.self.inside.policy c.requires (ap (λ (v : TapeLaneState). v.policy) c.self.view_is) c.self.invariant) st)).stands

pub returns-clause-gives : goal.returns-clause-gives
returns-clause-gives c = λ items within s st.
    let behind = sym c.goes_ahead.ensures ∙ c.if-goes_ahead.false in
    let there = ap (λ (v : TapeLaneState). v.back) c.self.view_is in
    let long = waits-length c.self.inside.waiting.lead items c.self.inside.waiting.back (λ some. omega (arith, within, there)) in
    (end_later _ c.args.note (ap (λ (e : Errors). goes_ahead e c.args.note) (sym c.errors.ensures) ∙ behind) (omega (arith, long, c.len.ensures, c.if-len-eq0.false)) s (stands_on items c.self.view_is st) (is_open (lane_on items c.args.self.now) s (shared_open c.args.self.now c.self.inside.policy c.requires (ap (λ (v : TapeLaneState). v.policy) c.self.view_is) c.self.invariant) st)).gives

pub returns-clause-stands : goal.returns-clause-stands
returns-clause-stands c = λ items within s st.
    let behind = sym c.goes_ahead.ensures ∙ c.if-goes_ahead.false in
    let there = ap (λ (v : TapeLaneState). v.back) c.self.view_is in
    let long = waits-length c.self.inside.waiting.lead items c.self.inside.waiting.back (λ some. omega (arith, within, there)) in
    (end_later _ c.args.note (ap (λ (e : Errors). goes_ahead e c.args.note) (sym c.errors.ensures) ∙ behind) (omega (arith, long, c.len.ensures, c.if-len-eq0.false)) s (stands_on items c.self.view_is st) (is_open (lane_on items c.args.self.now) s (shared_open c.args.self.now c.self.inside.policy c.requires (ap (λ (v : TapeLaneState). v.policy) c.self.view_is) c.self.invariant) st)).stands
