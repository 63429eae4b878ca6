use Rattle.std.proofs.Common.{◌≡◌, ◌≤◌, false, None, vec_len}
use Rattle.rx_pump.specs.Pumps.{AreSame}
use Rattle.rx_drain.specs.Drainers.{Fits, view_of}
use Rattle.rx_drain.proofs.Clearing.{Flushing}
use Rattle.rx_drain.proofs.drainer.flushes.flush_each.Given as goal

-- of the sinks from this place on only stuck ones are left unpaid
abbrev pub invariant-loop-place : goal.invariant-loop-place
invariant-loop-place g l = record {
  fits : Fits l.leave false None l.hands;
  inbox : l.hands.parts.inbox ≡ l.initial.hands.parts.inbox;
  same : AreSame (view_of l.initial.hands false None).ports (view_of l.hands false None).ports;
  keeps : l.hands.put_away.keeps ≡ l.initial.hands.put_away.keeps;
  within : l.place ≤ vec_len l.hands.kept;
  flushing : Flushing g.S.Sink.acts l.place (view_of l.initial.hands false None) (view_of l.hands false None);
}

abbrev pub decreases-loop-place : goal.decreases-loop-place
decreases-loop-place g l = l.place
