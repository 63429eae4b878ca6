use Rattle.std.proofs.Common.{◌≡◌, ◌≤◌, length, vec_len, vec_capacity}
use Rattle.rx_history.specs.Histories.{History}
use Rattle.rx_hub.specs.Hubs.{StandsFor}
use Rattle.rx_hub.specs.Runs.{Ran, misses_after, results_of}
use Rattle.rx_hub.proofs.hub.Hub.run.Given as goal

abbrev pub invariant-loop-port : goal.invariant-loop-port
invariant-loop-port l = record {
  ran : (H : History) → StandsFor l.fn.self.state H → Ran l.fn.self.state.rules l.self.state H l.yielded l.steps.items l.outs.items;
  misses : l.self.misses ≡ misses_after l.fn.self.misses (results_of l.steps.items);
  rules : l.self.state.rules ≡ l.fn.self.state.rules;
  count : vec_len l.steps ≡ length l.yielded;
  room : length l.fn.events.items ≤ vec_capacity l.steps;
}
