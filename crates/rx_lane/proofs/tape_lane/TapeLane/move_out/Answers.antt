use Rattle.std.proofs.Common.{◌+◌, ◌++◌, ◌≤◌, List, map, take, length, option_to_list, refl, sym, ap, ◌∙◌, arith}
use Rattle.rx_note.specs.declared.item.Item.{Item}
use Rattle.rx_note.specs.declared.note.Note.TheVariants.{Next}
use Rattle.rx_tape.specs.Tapes.{TapeState, waits}
use Rattle.rx_lane.specs.Lanes.{addressed}
use Rattle.rx_lane.specs.TapeLanes.{TapeLaneState}
use Rattle.rx_lane.proofs.Followed.{stands_alike}
use Rattle.rx_lane.proofs.Passed.{all_last, last_stay}
use Rattle.rx_lane.proofs.Shared.{copied_both}
use Rattle.rx_lane.proofs.tape_lane.TapeLane.move_out.Goals as goal

pub returns-clause-put : goal.returns-clause-put
returns-clause-put c =
    let who = c.args.who in
    let w = c.self.inside.waiting in
    let items = c.args.tape.now.items in
    let before = c.args.outs.now.items in
    let middle = c.copy_lead.new.outs.items in
    let after = c.move_passed.new.outs.items in
    let more = c.in_ok-more.more in
    let back = ap (λ (v : TapeLaneState). v.back) c.self.view_is ∙ c.requires.wait in
    let put =
    c.move_passed.ensures.put
    ∙ ap (λ (xs : List Item). middle ++ addressed who (map Next (take more xs))) (c.release-last.ensures.spares.items ∙ sym (all_last items w.back back)) in
    copied_both who c.args.items more w.lead items w.back before middle after c.in_ok-more.ensures.more c.in_ok-more.ensures.ok put
    ∙ ap (λ (v : TapeLaneState). before ++ addressed who (map Next (take c.args.items (waits v.lead items v.back)))) c.self.view_is

pub returns-clause-goes_on : goal.returns-clause-goes_on
returns-clause-goes_on c = λ n owed_is s st.
    let new = c.release-last.new.self in
    let tape = c.args.tape.now in
    let items = c.release-last.new.tape.items in
    let left = ap (λ (t : TapeState). t.items) c.move_passed.ensures.left in
    let lead = ap (λ (v : TapeLaneState). length (option_to_list v.lead)) c.self.view_is in
    let same = ap length c.release-last.ensures.spares.items in
    let fits : c.in_ok-more.more + new.back ≤ length items =
    omega (arith, c.in_ok-more.ensures.more, c.release-last.ensures.back, same, lead, c.requires.wait, c.requires.items) in
    stands_alike refl (last_stay new.lead items c.move_passed.new.tape.items c.in_ok-more.more new.back left fits) refl refl refl
    (c.release-last.ensures.goes_on n owed_is s st)
