use Rattle.std.proofs.Common.{take}
use Rattle.std.specs.List.{AllByRecursion}
use Rattle.rx_http.specs.Epochs.{IsEpochByte}
use Rattle.rx_http.proofs.epoch.is_epoch.Given as goal

abbrev pub invariant-loop-byte : goal.invariant-loop-byte
invariant-loop-byte l = AllByRecursion IsEpochByte (take l.byte-index l.bytes)
