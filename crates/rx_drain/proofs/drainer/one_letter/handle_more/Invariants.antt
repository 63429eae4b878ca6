use Rattle.std.proofs.Common.{◌≡◌}
use Rattle.rx_pump.specs.Pumps.{AreSame}
use Rattle.rx_drain.specs.Drainers.{Fits, HasGoneOn, IsOfSubject, TakesMore, view_of}
use Rattle.rx_drain.proofs.drainer.one_letter.handle_more.Given as goal

-- so far it went on by the letters that came
abbrev pub invariant-loop-count : goal.invariant-loop-count
invariant-loop-count g l = record {
  fits : Fits l.leave l.now.left l.now.fault l.hands;
  of_subject : IsOfSubject l.now.fault;
  inbox : TakesMore l.initial.hands.parts.inbox l.hands.parts.inbox;
  same : AreSame (view_of l.initial.hands l.fn.handled.left l.fn.handled.fault).ports (view_of l.hands l.now.left l.now.fault).ports;
  keeps : l.hands.put_away.keeps ≡ l.initial.hands.put_away.keeps;
  goes : HasGoneOn g.S.Sink.acts (view_of l.initial.hands l.fn.handled.left l.fn.handled.fault) (view_of l.hands l.now.left l.now.fault);
}
