use Rattle.std.proofs.Common.{sym}
use Rattle.rx_server.proofs.wired.running_pump.serve.Goals as goal

pub returns-in-Err : goal.returns-in-Err
returns-in-Err g c = (c.in-Err.stop, c.in-Err.ensures, sym c.let_go.ensures)
