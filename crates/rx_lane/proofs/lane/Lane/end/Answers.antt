-- A terminal is given or waits as its queue says.
use Rattle.std.proofs.Common.{refl}
use Rattle.rx_lane.specs.Queues.{items_of}
use Rattle.rx_lane.proofs.Steps.{stands_as, is_open, end_all}
use Rattle.rx_lane.proofs.lane.Lane.end.Goals.{After-end_queue}
use Rattle.rx_lane.proofs.lane.Lane.end.Goals as goal

pub returns-clause-gives : goal.returns-clause-gives
returns-clause-gives c = λ s st.
    (end_all _ c.args.note (items_of c.end_queue.new.queue) c.self.inside.last c.end_queue.new.last c.end_queue.result refl
    c.end_queue.ensures.ahead c.end_queue.ensures.at_once c.end_queue.ensures.behind
    s (stands_as c.self.view_is st) (is_open c.args.self.now.state s c.requires st)).gives

pub returns-clause-stands : goal.returns-clause-stands
returns-clause-stands c = λ s st.
    let is = c.end_queue.ensures.strategy in
    rw is (end_all _ c.args.note (items_of c.end_queue.new.queue) c.self.inside.last c.end_queue.new.last c.end_queue.result refl
    c.end_queue.ensures.ahead c.end_queue.ensures.at_once c.end_queue.ensures.behind
    s (stands_as c.self.view_is st) (is_open c.args.self.now.state s c.requires st)).stands
