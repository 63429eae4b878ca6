-- QUIT always has its command, since it takes no memory.
use Rattle.std.proofs.Common.{refl}
use Rattle.rx_proto.proofs.parser.command_of.Goals as goal

pub returns-in-Quit : goal.returns-in-Quit
returns-in-Quit c = rw c.in-Quit.is refl
