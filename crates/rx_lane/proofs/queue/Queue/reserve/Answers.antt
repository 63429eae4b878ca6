-- Room for so many items is what the queue of all of them takes memory for.
use Rattle.std.proofs.Common.{rules}
use Rattle.rx_lane.proofs.queue.Queue.reserve.Goals as goal

pub returns-in_err-reserve-clause-refused : goal.returns-in_err-reserve-clause-refused
returns-in_err-reserve-clause-refused c = search rules

pub returns-in_ok-reserve-clause-room : goal.returns-in_ok-reserve-clause-room
returns-in_ok-reserve-clause-room c = search rules
