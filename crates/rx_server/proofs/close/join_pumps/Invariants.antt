use Rattle.std.proofs.Common.{◌+◌, ◌≤◌, vec_len, vec_capacity}
use Rattle.rx_pump.specs.Serving.{HasPumped, PumpHasFailed}
use Rattle.rx_server.specs.declared.wired.start_fault.Role.TheVariants.{Pump}
use Rattle.rx_server.proofs.Leaving.{JoinedSome}
use Rattle.rx_server.proofs.close.join_pumps.Given as goal

-- the first have joined, and there is room for the others
abbrev pub invariant-loop-running : goal.invariant-loop-running
invariant-loop-running g l = record {
  joined : JoinedSome HasPumped PumpHasFailed Pump l.initial.pumps.items l.pumps.items l.ends.items l.fault;
  room : vec_len l.ends + vec_len l.pumps ≤ vec_capacity l.ends;
}

abbrev pub decreases-loop-running : goal.decreases-loop-running
decreases-loop-running g l = vec_len l.pumps
