use Rattle.std.proofs.Common.{◌≡◌, ◌+◌, ◌-◌, ◌≤◌, length, take, drop}
use Rattle.rx_program.proofs.socket.gathering.move_down.Given as goal

abbrev pub decreases-loop-moved : goal.decreases-loop-moved
decreases-loop-moved l = length l.bytes - l.moved

abbrev pub invariant-loop-moved : goal.invariant-loop-moved
invariant-loop-moved l = (length l.bytes ≡ length l.initial.bytes) × (l.moved + l.count ≤ length l.bytes) × (take l.moved l.bytes ≡ take l.moved (drop l.count l.initial.bytes)) × (drop (l.moved + l.count) l.bytes ≡ drop (l.moved + l.count) l.initial.bytes)
