-- An item that overflows ends the lane by the error that was kept for it.
use Rattle.std.proofs.Common.{◌≡◌, Some, length, true, refl, sym, ap, ◌∙◌}
use Rattle.rx_note.specs.Signals.{overflow}
use Rattle.rx_lane.specs.Lanes.{LaneView}
use Rattle.rx_lane.specs.Queues.{items_of, strategy_of, overfills}
use Rattle.rx_lane.proofs.Steps.{stands_as, is_open, kept_where_full, overflow_all}
use Rattle.rx_lane.proofs.lane.Lane.overflow.Goals.{After-end_queue}
use Rattle.rx_lane.proofs.lane.Lane.overflow.Goals as goal

is_full : (c : After-end_queue) → overfills (strategy_of c.self.inside.queue) (length (items_of c.self.inside.queue)) ≡ true
is_full c = ap (λ (v : LaneView). overfills v.state.policy.strategy (length v.state.items)) c.self.view_is ∙ c.requires.full

none_owed : (c : After-end_queue) → c.self.inside.owed ≡ 0
none_owed c = ap (λ (v : LaneView). v.state.owing) c.self.view_is ∙ c.requires.none_owed

-- the note that is taken is that error
note_is : (c : After-end_queue) → c.in-Some.note ≡ overflow
note_is c =
    let open_now = ap (λ (v : LaneView). v.state.ended) c.self.view_is ∙ c.requires.open in
    let kept = kept_where_full (strategy_of c.self.inside.queue) (length (items_of c.self.inside.queue)) c.self.inside.overflow (is_full c) (c.self.invariant.0 open_now) in
    let same : Some c.in-Some.note ≡ Some overflow = sym c.in-Some.is ∙ c.take.ensures.value ∙ kept in
    cc

pub returns-clause-gives : goal.returns-clause-gives
returns-clause-gives c = λ item s st.
    (overflow_all _ item c.in-Some.note (items_of c.end_queue.new.queue) c.self.inside.last c.end_queue.new.last c.end_queue.result (note_is c) (none_owed c) (is_full c) refl
    c.end_queue.ensures.ahead c.end_queue.ensures.at_once c.end_queue.ensures.behind
    s (stands_as c.self.view_is st) (is_open c.args.self.now.state s c.requires.open st)).gives

pub returns-clause-stands : goal.returns-clause-stands
returns-clause-stands c = λ item s st.
    let is = c.end_queue.ensures.strategy in
    rw is (overflow_all _ item c.in-Some.note (items_of c.end_queue.new.queue) c.self.inside.last c.end_queue.new.last c.end_queue.result (note_is c) (none_owed c) (is_full c) refl
    c.end_queue.ensures.ahead c.end_queue.ensures.at_once c.end_queue.ensures.behind
    s (stands_as c.self.view_is st) (is_open c.args.self.now.state s c.requires.open st)).stands
