use Rattle.std.proofs.Common.{take}
use Rattle.std.specs.List.{AllByRecursion}
use Rattle.rx_http.specs.Keys.{IsKeyByte}
use Rattle.rx_http.proofs.request.idempotency_key.is_key.Given as goal

abbrev pub invariant-loop-byte : goal.invariant-loop-byte
invariant-loop-byte l = AllByRecursion IsKeyByte (take l.byte-index l.bytes)
