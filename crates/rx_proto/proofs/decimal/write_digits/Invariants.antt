use Rattle.std.proofs.Common.{◌≡◌, ◌<◌, ◌^◌, length, drop}
use Rattle.std.specs.Fmt.{decimal}
use Rattle.rx_proto.proofs.Digits.{spelled}
use Rattle.rx_proto.proofs.decimal.write_digits.Given as goal

-- the digits so far complete those of the rest, for which there is room
abbrev pub invariant-loop-rest : goal.invariant-loop-rest
invariant-loop-rest l =
    (length l.digits ≡ 10) × (l.start < 10) × (l.rest < 10 ^ l.start) × (spelled l.rest (drop l.start l.digits) ≡ decimal l.number)

abbrev pub decreases-loop-rest : goal.decreases-loop-rest
decreases-loop-rest l = l.start
