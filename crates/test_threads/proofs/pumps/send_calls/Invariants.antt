use Rattle.std.proofs.Common.{◌≡◌}
use Rattle.test_threads.proofs.pumps.send_calls.Given as goal

-- the ports are of the same boxes
abbrev pub invariant-loop-port : goal.invariant-loop-port
invariant-loop-port g l = record {
  first : l.first.box ≡ l.initial.first.box;
  second : l.second.box ≡ l.initial.second.box;
}
