use Rattle.std.proofs.Common.{take}
use Rattle.rx_pump.specs.Opened.{all_opened}
use Rattle.rx_mailbox.specs.PortRows.{Puts}
use Rattle.rx_drain.specs.Calls.{calls_to, partings_of}
use Rattle.rx_drain.proofs.drainer.asks.part_all.Given as goal

-- the observers of the sinks before this one were asked for what is due, and are disposed of
abbrev pub invariant-loop-one : goal.invariant-loop-one
invariant-loop-one g l = Puts (λ d. calls_to d (partings_of (take l.one-index l.kept))) (all_opened l.initial.subjects.items) (all_opened l.subjects.items)
