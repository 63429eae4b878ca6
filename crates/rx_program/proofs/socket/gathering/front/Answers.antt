use Rattle.std.proofs.Common.{sym, arith, take_all}
use Rattle.rx_program.proofs.socket.gathering.front.Goals as goal

pub returns-in-None : goal.returns-in-None
returns-in-None c = sym (take_all 4096 c.args.bytes.now (omega (arith, c.in-None.ensures.lookup)))
