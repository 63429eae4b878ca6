use Rattle.std.proofs.Common.{◌≤◌, length, take}
use Rattle.std.specs.Io.KnownBytes.{Appends}
use Rattle.rx_program.proofs.socket.gathering.write_blocks.Given as goal

-- what was sent so far stands behind what the writer held
abbrev pub invariant-loop : goal.invariant-loop
invariant-loop g l = (l.sent ≤ length l.bytes) × Appends (g.W.Write.contents l.initial.writer) (g.W.Write.contents l.writer) (take l.sent l.bytes)
