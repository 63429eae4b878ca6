use Rattle.std.proofs.Common.{◌≡◌, ◌∷◌, [], ◌++◌, ◌+◌, ◌<◌, ◌≤◌, List, Option, map, drop, length, refl, sym, ap, ◌∙◌, option_to_list, arith}
use Rattle.std.proofs.lemmas.List.{length-append}
use Rattle.rx_note.specs.declared.item.Item.{Item}
use Rattle.rx_note.specs.declared.note.Note.TheVariants.{Next}
use Rattle.rx_note.specs.declared.strategy.Strategy.{Strategy}
use Rattle.rx_note.specs.Signals.{given}
use Rattle.rx_lane.specs.TapeLanes.{TapeLaneState, lane_on, within_room}
use Rattle.rx_tape.specs.Tapes.{waits}
use Rattle.rx_lane.proofs.Steps.{is_open, offer_now, offer_later}
use Rattle.rx_lane.proofs.Followed.{shared_open, stands_on, stands_alike, none_waits, queued_within, shared_fits, copy_owed, copy_unowed}
use Rattle.rx_tape.proofs.Lasts.{waits-more}
use Rattle.rx_lane.proofs.tape_lane.TapeLane.pass.Goals as goal

pub returns-then-self-gt0-clause-passes : goal.returns-then-self-gt0-clause-passes
returns-then-self-gt0-clause-passes c =
    let w = c.self.inside.waiting in
    let owing = ap (λ (v : TapeLaneState). v.owing) c.self.view_is in
    let back = ap (λ (v : TapeLaneState). v.back) c.self.view_is in
    record {
      gives = λ items item tape_is s st.
          let owed : 0 < c.args.self.now.owing = omega (arith, c.if-self-gt0.true, owing) in
          let copy = copy_owed c.args.self.now.owing item owed in
          (offer_now _ item c.if-self-gt0.true s (stands_on items c.self.view_is st) (is_open (lane_on items c.args.self.now) s (shared_open c.args.self.now c.self.inside.policy c.requires.open (ap (λ (v : TapeLaneState). v.policy) c.self.view_is) c.self.invariant) st)).gives
          ∙ ap (λ (o : Option Item). given s ++ map Next (option_to_list o)) (sym copy);
      stands = λ items item tape_is s st.
          let before = stands_on items c.self.view_is st in
          let owed = before.owing in
          let none = before.items ∙ none_waits s (omega (arith, c.if-self-gt0.true, owed)) in
          let le : w.back ≤ length items = omega (arith, c.requires.stands.within, back, ap length tape_is, length-append items (item ∷ [])) in
          let same =
          c.skip.ensures.waits
          ∙ ap (λ (xs : List Item). drop 1 (waits w.lead xs (w.back + 1))) tape_is
          ∙ ap (drop 1) (waits-more w.lead items item w.back le)
          ∙ ap (λ (xs : List Item). drop 1 (xs ++ item ∷ [])) none
          ∙ sym none in
          stands_alike refl same refl refl refl (offer_now _ item c.if-self-gt0.true s before (is_open (lane_on items c.args.self.now) s (shared_open c.args.self.now c.self.inside.policy c.requires.open (ap (λ (v : TapeLaneState). v.policy) c.self.view_is) c.self.invariant) st)).stands;
    }

pub returns-clause-passes : goal.returns-clause-passes
returns-clause-passes c =
    let w = c.self.inside.waiting in
    let g = c.self.inside.policy.strategy in
    let back = ap (λ (v : TapeLaneState). v.back) c.self.view_is in
    let owing = ap (λ (v : TapeLaneState). v.owing) c.self.view_is in
    record {
      gives = λ items item tape_is s st.
          let none : c.args.self.now.owing ≡ 0 = omega (arith, c.if-self-gt0.false, owing) in
          (offer_later _ item (omega (arith, c.if-self-gt0.false)) (shared_fits g _ c.self.invariant) s (stands_on items c.self.view_is st) (is_open (lane_on items c.args.self.now) s (shared_open c.args.self.now c.self.inside.policy c.requires.open (ap (λ (v : TapeLaneState). v.policy) c.self.view_is) c.self.invariant) st)).gives
          ∙ ap (λ (o : Option Item). given s ++ map Next (option_to_list o)) (sym (copy_unowed c.args.self.now.owing item none));
      stands = λ items item tape_is s st.
          let le : w.back ≤ length items = omega (arith, c.requires.stands.within, back, ap length tape_is, length-append items (item ∷ [])) in
          let same =
          c.make_room.ensures.waits
          ∙ ap (λ (k : Strategy). within_room k (waits w.lead c.args.tape.now.items (w.back + 1))) c.strategy.ensures.strategy
          ∙ ap (λ (xs : List Item). within_room g (waits w.lead xs (w.back + 1))) tape_is
          ∙ ap (within_room g) (waits-more w.lead items item w.back le)
          ∙ sym (queued_within g (waits w.lead items w.back) item c.self.invariant) in
          stands_alike refl same refl refl refl (offer_later _ item (omega (arith, c.if-self-gt0.false)) (shared_fits g _ c.self.invariant) s (stands_on items c.self.view_is st) (is_open (lane_on items c.args.self.now) s (shared_open c.args.self.now c.self.inside.policy c.requires.open (ap (λ (v : TapeLaneState). v.policy) c.self.view_is) c.self.invariant) st)).stands;
    }
