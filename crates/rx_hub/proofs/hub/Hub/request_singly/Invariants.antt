use Rattle.std.proofs.Common.{◌≡◌}
use Rattle.rx_hub.specs.Runs.{RequestsEach}
use Rattle.rx_hub.proofs.hub.Hub.request_singly.Given as goal

-- so many were taken, and no more of them refused
abbrev pub invariant-loop : goal.invariant-loop
invariant-loop l = record {
  took : RequestsEach l.initial.self l.self l.port l.who l.counter l.initial.outs.items l.outs.items l.missed;
  rules : l.self.state.rules ≡ l.initial.self.state.rules;
}
