use Rattle.std.proofs.Common.{◌≡◌, ◌++◌, drop}
use Rattle.rx_tape.specs.Tapes.{waits}
use Rattle.rx_subject.proofs.subject.copied.Given as goal

abbrev pub invariant-loop-place : goal.invariant-loop-place
invariant-loop-place l = l.items.items ++ drop l.place l.fn.tape.items ≡ waits l.fn.begins.lead l.fn.tape.items l.fn.begins.back
