use Rattle.std.proofs.Common.{take}
use Rattle.std.specs.List.{AllByRecursion}
use Rattle.rx_proto.specs.Names.{IsNameByte}
use Rattle.rx_proto.proofs.words.named.Given as goal

abbrev pub invariant-loop-len : goal.invariant-loop-len
invariant-loop-len l = AllByRecursion IsNameByte (take l.len l.bytes)
