use Rattle.std.proofs.Common.{◌≡◌, false, None}
use Rattle.rx_pump.specs.Pumps.{AreSame}
use Rattle.rx_drain.specs.Drainers.{Fits, view_of}
use Rattle.rx_drain.proofs.Clearing.{ComesTo}
use Rattle.rx_drain.proofs.drainer.flushes.flush_last.Given as goal

-- it was flushed some times
abbrev pub invariant-loop : goal.invariant-loop
invariant-loop g l = record {
  fits : Fits l.leave false None l.hands;
  inbox : l.hands.parts.inbox ≡ l.initial.hands.parts.inbox;
  same : AreSame (view_of l.initial.hands false None).ports (view_of l.hands false None).ports;
  keeps : l.hands.put_away.keeps ≡ l.initial.hands.put_away.keeps;
  comes : ComesTo g.S.Sink.acts (view_of l.initial.hands false None) (view_of l.hands false None);
}
