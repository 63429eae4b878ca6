use Rattle.std.proofs.Common.{◌≡◌, ◌+◌, ◌-◌, ◌/◌, ◌++◌, List, map, take, ap, ◌∙◌, arith}
use Rattle.rx_note.specs.declared.item.Item.{Item}
use Rattle.rx_note.specs.declared.note.Note.TheVariants.{Next}
use Rattle.rx_tape.specs.Tapes.{TapeState}
use Rattle.rx_lane.specs.Lanes.{addressed}
use Rattle.rx_lane.proofs.Shared.{put_both}
use Rattle.rx_lane.proofs.waiting.move_passed.Goals as goal

pub returns-clause-put : goal.returns-clause-put
returns-clause-put c =
    let items = c.args.tape.now.items in
    let half = c.args.count / 2 in
    let rest = c.args.count - half in
    let before = c.args.outs.now.items in
    let all : half + rest ≡ c.args.count = omega (arith) in
    let left = ap (λ (tape : TapeState). tape.items) (c.shrink.ensures ∙ c.move_first.ensures.left) in
    put_both c.args.who items half rest before c.move_first.new.outs.items c.move_first-2.new.outs.items c.move_first.ensures.put
    (c.move_first-2.ensures.put ∙ ap (λ (xs : List Item). c.move_first.new.outs.items ++ addressed c.args.who (map Next (take rest xs))) left)
    ∙ ap (λ n. before ++ addressed c.args.who (map Next (take n items))) all
