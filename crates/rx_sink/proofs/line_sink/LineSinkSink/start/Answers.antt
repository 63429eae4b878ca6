-- The line that tells the observer's number is written, or a front of it at a fault.
use Rattle.std.proofs.Common.{rules}
use Rattle.rx_sink.proofs.line_sink.LineSinkSink.start.Goals as goal

pub returns-clause-ok : goal.returns-clause-ok
returns-clause-ok g c = search rules

pub returns-in_default-clause-fault : goal.returns-in_default-clause-fault
returns-in_default-clause-fault g c = search rules
