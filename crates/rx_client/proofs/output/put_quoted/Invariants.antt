use Rattle.std.proofs.Common.{◌≡◌, ◌++◌, take}
use Rattle.rx_client.specs.Printed.{each, quoted}
use Rattle.rx_client.proofs.output.put_quoted.Given as goal

-- the bytes so far stand escaped in the block
abbrev pub invariant-loop-byte : goal.invariant-loop-byte
invariant-loop-byte l = l.block.items ≡ l.initial.block.items ++ each quoted (take l.byte-index l.text)
