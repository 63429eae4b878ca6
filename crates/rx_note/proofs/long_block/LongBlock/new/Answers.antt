-- A block has room for the bytes that are put in it.
use Rattle.std.proofs.Common.{arith}
use Rattle.rx_note.proofs.long_block.LongBlock.new.Goals as goal

pub shared-requires-in-121-to-184 : goal.shared-requires-in-121-to-184
shared-requires-in-121-to-184 c = (omega arith, omega arith)

pub shared-requires-in-185-to-248 : goal.shared-requires-in-185-to-248
shared-requires-in-185-to-248 c = (omega arith, omega arith)
