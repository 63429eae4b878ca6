-- What is kept as a short text is no longer than one.
use Rattle.std.proofs.Common.{arith}
use Rattle.rx_note.proofs.body.Body.new.Goals as goal

pub short-requires : goal.short-requires
short-requires c = omega arith
