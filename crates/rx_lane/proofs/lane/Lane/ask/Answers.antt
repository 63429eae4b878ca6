use Rattle.std.proofs.Common.{◌≡◌, ◌≤◌, ◌<◌, ◌+◌, length, append_assoc, ap, arith}
use Rattle.rx_lane.specs.Lanes.{LaneView}
use Rattle.rx_lane.specs.Queues.{items_of}
use Rattle.rx_lane.proofs.Steps.{stands_as, ask_all, ask_part}
use Rattle.rx_lane.proofs.lane.Lane.ask.Goals.{After-is_err}
use Rattle.rx_lane.proofs.lane.Lane.ask.Goals as goal

pub returns-then-all-2-clause-gives : goal.returns-then-all-2-clause-gives
returns-then-all-2-clause-gives c =
    let there = ap (λ (v : LaneView). length v.state.items) c.self.view_is in
    let all : c.min-given.result ≡ length (items_of c.self.inside.queue) = omega (arith, c.waiting_len-waiting.ensures.state, c.if-all-2.true, there) in
    let owed : c.min-given.result ≤ c.self.inside.owed + c.args.n = omega (arith, c.min-given.ensures, c.in_ok-owed.ensures.owed) in
    (_, rw (c.give_last.ensures.moved, c.move_items.ensures.moved, c.reserve.ensures.items, append_assoc), λ s st. (ask_all _ c.args.n c.min-given.result all owed s (stands_as c.self.view_is st)).gives)

pub returns-else-all-2-clause-gives : goal.returns-else-all-2-clause-gives
returns-else-all-2-clause-gives c =
    let there = ap (λ (v : LaneView). length v.state.items) c.self.view_is in
    let part : c.min-given.result < length (items_of c.self.inside.queue) = omega (arith, c.waiting_len-waiting.ensures.state, c.min-given.ensures, c.if-all-2.false, there) in
    let owed : c.min-given.result ≡ c.self.inside.owed + c.args.n = omega (arith, c.min-given.ensures, c.in_ok-owed.ensures.owed, c.if-all-2.false, there) in
    (_, rw (c.move_items.ensures.moved, c.reserve.ensures.items), λ s st. (ask_part _ c.args.n c.min-given.result owed part s (stands_as c.self.view_is st)).gives)
