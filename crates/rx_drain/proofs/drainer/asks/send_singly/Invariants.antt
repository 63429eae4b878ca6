use Rattle.rx_pump.specs.Opened.{all_opened}
use Rattle.rx_mailbox.specs.PortRows.{Puts}
use Rattle.rx_drain.specs.Calls.{calls_to}
use Rattle.rx_drain.proofs.Events.{requested}
use Rattle.rx_drain.proofs.drainer.asks.send_singly.Given as goal

-- so many items were asked for
abbrev pub invariant-loop : goal.invariant-loop
invariant-loop g l = Puts (λ d. calls_to d (requested l.subject l.who l.counter)) (all_opened l.initial.subjects.items) (all_opened l.subjects.items)
