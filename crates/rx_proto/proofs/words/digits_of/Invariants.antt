use Rattle.std.proofs.Common.{◌≡◌, ◌<◌, drop}
use Rattle.rx_proto.specs.Reading.{digits_read}
use Rattle.rx_proto.proofs.words.digits_of.Given as goal

abbrev pub invariant-loop-digit : goal.invariant-loop-digit
invariant-loop-digit l = (l.value < 18446744073709551616) × (digits_read l.value (drop l.digit-index l.bytes) ≡ digits_read 0 l.bytes)
