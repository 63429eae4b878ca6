use Rattle.rx_lines.proofs.Written.{Puts-direct}
use Rattle.rx_lines.proofs.outbox.Outbox.make_room.Goals as goal

pub returns-then-bytes-gt-BLOCK : goal.returns-then-bytes-gt-BLOCK
returns-then-bytes-gt-BLOCK g c = Puts-direct c.write_bytes.result _ _ _ _ _ _ c.in-Ok.ensures.written c.in-Ok.ensures.empty c.write_bytes.ensures
