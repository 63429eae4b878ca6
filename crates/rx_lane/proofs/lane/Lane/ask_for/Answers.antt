use Rattle.std.proofs.Common.{◌≡◌, ◌≤◌, ◌<◌, ◌+◌, ◌++◌, List, length, map, take, option_to_list, ap, ◌∙◌, arith}
use Rattle.rx_note.specs.declared.note.Note.{Note}
use Rattle.rx_note.specs.declared.note.Note.TheVariants.{Next}
use Rattle.rx_lane.specs.Lanes.{LaneView, addressed}
use Rattle.rx_lane.specs.Queues.{items_of}
use Rattle.rx_lane.proofs.Shared.{put_behind}
use Rattle.rx_lane.proofs.Steps.{stands_as, ask_all, ask_part}
use Rattle.rx_lane.proofs.lane.Lane.ask_for.Goals as goal

pub returns-then-all-2-clause-gives : goal.returns-then-all-2-clause-gives
returns-then-all-2-clause-gives c =
    let there = ap (λ (v : LaneView). length v.state.items) c.self.view_is in
    let all : c.min-given.result ≡ length (items_of c.self.inside.queue) = omega (arith, c.waiting_len-waiting.ensures.state, c.if-all-2.true, there) in
    let owed : c.min-given.result ≤ c.self.inside.owed + c.args.n = omega (arith, c.min-given.ensures, c.in_ok-owed.ensures.owed) in
    let who = c.args.who in
    let notes = map Next (take c.min-given.result (items_of c.self.inside.queue)) in
    let last = option_to_list c.self.inside.last in
    let behind = c.put_last.ensures ∙ ap (λ (more : List Note). c.move_items_to.new.outs.items ++ addressed who more) (ap option_to_list c.take.ensures.value) in (
      notes ++ last,
      put_behind who c.args.outs.now.items c.reserve.new.self.items c.move_items_to.new.outs.items c.put_last.new.outs.items notes last
          c.reserve.ensures.items c.move_items_to.ensures.moved behind,
      λ s st. (ask_all _ c.args.n c.min-given.result all owed s (stands_as c.self.view_is st)).gives,
    )

pub returns-else-all-2-clause-gives : goal.returns-else-all-2-clause-gives
returns-else-all-2-clause-gives c =
    let there = ap (λ (v : LaneView). length v.state.items) c.self.view_is in
    let part : c.min-given.result < length (items_of c.self.inside.queue) = omega (arith, c.waiting_len-waiting.ensures.state, c.min-given.ensures, c.if-all-2.false, there) in
    let owed : c.min-given.result ≡ c.self.inside.owed + c.args.n = omega (arith, c.min-given.ensures, c.in_ok-owed.ensures.owed, c.if-all-2.false, there) in
    (_, rw (c.move_items_to.ensures.moved, c.reserve.ensures.items), λ s st. (ask_part _ c.args.n c.min-given.result owed part s (stands_as c.self.view_is st)).gives)
