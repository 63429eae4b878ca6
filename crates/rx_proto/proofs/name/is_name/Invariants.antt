use Rattle.std.proofs.Common.{take}
use Rattle.std.specs.List.{AllByRecursion}
use Rattle.rx_proto.specs.Names.{IsNameByte}
use Rattle.rx_proto.proofs.name.is_name.Given as goal

abbrev pub invariant-loop-byte : goal.invariant-loop-byte
invariant-loop-byte l = AllByRecursion IsNameByte (take l.byte-index l.bytes)
