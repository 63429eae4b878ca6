-- A block that is refilled has the bytes that it was filled with.
use Rattle.rx_note.proofs.block.Block.refill.Goals as goal

pub returns-clause-filled : goal.returns-clause-filled
returns-clause-filled over c = λ _. cc
