use Rattle.std.proofs.Common.{◌≡◌, ◌≤◌, ◌+◌, ◌-◌, ℕ, List, Some, length, min, inl, inr, sym, subst, ap, ◌∙◌, arith}
use Rattle.rx_note.specs.declared.item.Item.{Item}
use Rattle.rx_note.specs.Signals.{Ended, sent}
use Rattle.rx_tape.specs.Tapes.{end_of, place_of}
use Rattle.rx_lane.specs.Lanes.{StandsFor}
use Rattle.rx_lane.specs.TapeLanes.{TapeLaneState, lane_on}
use Rattle.rx_lane.proofs.tape_lane.TapeLane.end_on.Goals as goal

pub returns-clause-stands_back : goal.returns-clause-stands_back
returns-clause-stands_back c =
    let tape = c.args.tape.now in
    let old = c.args.self.now in
    let new = c.end-given.new.self in
    let waited = ap (λ (v : TapeLaneState). v.back) c.self.view_is in
    let left = ap (λ (v : TapeLaneState). v.back) c.self-2.view_is in
    let cursor = ap (λ (v : TapeLaneState). v.cursor) c.self-2.view_is in
    let moves = c.advance_by.ensures.moves (end_of tape - old.back) (ap (place_of tape.places) (cursor ∙ c.end-given.ensures.cursor) ∙ c.requires.stands.place) in
    let same = ap length moves.spares.items in
    let fewer : new.back ≤ old.back = elim c.end-given.ensures.back [ inl kept ↦ omega (arith, kept) | inr none ↦ omega (arith, none) ] in
    let further : min (end_of tape - old.back + (c.self.inside.waiting.back - c.self-2.inside.waiting.back)) (end_of tape) ≡ end_of c.advance_by.new.self - new.back =
    omega (arith, c.requires.stands.within, waited, left, same, moves.spares.front, fewer) in
    record {
      within = omega (arith, c.requires.stands.within, fewer, same);
      place = ap (place_of c.advance_by.new.self.places) (sym cursor) ∙ moves.place_is ∙ ap (λ (n : ℕ). Some n) further;
    }

pub returns-clause-stands : goal.returns-clause-stands
returns-clause-stands c = λ s st.
    let left : c.advance_by.new.self.items ≡ c.args.tape.now.items = c.advance_by.ensures.spares.items in
    subst (λ (items : List Item). StandsFor (lane_on items c.end-given.new.self) (sent s (Ended c.args.note))) (sym left)
    (c.end-given.ensures.stands c.args.tape.now.items c.requires.stands.within s st)
