use Rattle.std.proofs.Common.{◌≡◌, ◌++◌, take}
use Rattle.rx_client.specs.Printed.{each, hexed}
use Rattle.rx_client.proofs.output.put_hex.Given as goal

-- the bytes so far stand in the block by their digits
abbrev pub invariant-loop-byte : goal.invariant-loop-byte
invariant-loop-byte l = l.block.items ≡ l.initial.block.items ++ each hexed (take l.byte-index l.text)
