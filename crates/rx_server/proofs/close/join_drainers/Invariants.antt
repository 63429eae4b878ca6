use Rattle.std.proofs.Common.{◌+◌, ◌≤◌, map, vec_len, vec_capacity}
use Rattle.rx_drain.specs.Serving.{HasDrained, DrainerHasFailed}
use Rattle.rx_server.specs.declared.wired.start_fault.Role.TheVariants.{Drainer}
use Rattle.rx_server.proofs.Leaving.{JoinedSome}
use Rattle.rx_server.proofs.close.join_drainers.Given as goal

-- the first have joined, and there is room for the others
abbrev pub invariant-loop-running : goal.invariant-loop-running
invariant-loop-running g l = record {
  joined : JoinedSome (HasDrained g.S.Sink.acts) (DrainerHasFailed g.S.Sink.acts) Drainer (map (λ drainer. drainer.handle.promise.0.value) l.initial.drainers.items) (map (λ drainer. drainer.handle.promise.0.value) l.drainers.items) l.ends.items l.fault;
  room : vec_len l.ends + vec_len l.drainers ≤ vec_capacity l.ends;
}

abbrev pub decreases-loop-running : goal.decreases-loop-running
decreases-loop-running g l = vec_len l.drainers
