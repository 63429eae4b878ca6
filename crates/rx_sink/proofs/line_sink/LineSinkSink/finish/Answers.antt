-- What is left tells how many notes were taken, and whether there was a fault.
use Rattle.std.proofs.Common.{rules}
use Rattle.rx_sink.proofs.line_sink.LineSinkSink.finish.Goals as goal

pub returns : goal.returns
returns g c = search rules
