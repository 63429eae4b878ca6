use Rattle.rx_server.proofs.Unsettling.{stops-drainer, stops-pump, stops-worker}
use Rattle.rx_server.proofs.close.returned.Returned.settle.Goals as goal

pub returns-in-Err-clause-fault : goal.returns-in-Err-clause-fault
returns-in-Err-clause-fault g c =
    let self = c.args.self in
    stops-pump self.subjects.items self.drainers.items self.replies.items c.unsettled.result c.in-Err.place c.settle_each.new.settled.items c.unsettled.ensures c.in-Err.ensures

pub returns-in-Err-settle_each-clause-fault : goal.returns-in-Err-settle_each-clause-fault
returns-in-Err-settle_each-clause-fault g c =
    let self = c.args.self in
    stops-drainer self.subjects.items self.drainers.items self.replies.items c.unsettled-in-Err-settle_each.result c.in-Err-settle_each.place c.settle_each.new.settled.items c.settle_each-2.new.settled.items
    c.unsettled-in-Err-settle_each.ensures c.in_default.ensures c.in-Err-settle_each.ensures

pub returns-in-Err-settle_each-2-clause-fault : goal.returns-in-Err-settle_each-2-clause-fault
returns-in-Err-settle_each-2-clause-fault g c =
    let self = c.args.self in
    stops-worker self.subjects.items self.drainers.items self.replies.items c.unsettled-in-Err-settle_each-2.result c.in-Err-settle_each-2.place c.settle_each.new.settled.items c.settle_each-2.new.settled.items c.settle_each-3.new.settled.items
    c.unsettled-in-Err-settle_each-2.ensures c.in_default.ensures c.in_default-settle_each.ensures c.in-Err-settle_each-2.ensures
