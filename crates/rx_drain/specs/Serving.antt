-- What a drainer leaves that has served to its end, or to a fault (this project's own rule).
--
-- The drainer's thread: what `join` answers is what `serve` promises of the drainer that was handed in, but that at a fault
-- what it left was let go and the fault alone is answered: there was such a stop.
use Rattle.std.specs.Prelude.{◌≡◌, true, [], length, Some, None}
use Rattle.rx_mailbox.specs.Boxes.{HasEachBye}
use Rattle.rx_pump.specs.Opened.{opened_ports}
use Rattle.rx_pump.specs.Pumps.{AreSame}
use Rattle.rx_sink.specs.Acts.{Acts}
use Rattle.rx_drain.specs.declared.drainer.drain_end.DrainEnd.{DrainEnd}
use Rattle.rx_drain.specs.declared.drainer.drain_fault.DrainFault.{DrainFault}
use Rattle.rx_drain.specs.declared.drainer.drain_fault.DrainFault.TheVariants.{InboxGone}
use Rattle.rx_drain.specs.declared.drainer.drain_stop.DrainStop.{DrainStop}
use Rattle.rx_drain.specs.Logs.{Log, has_left}
use Rattle.rx_drain.specs.Drainers.{DrainerView, Drains, KeepsDrainer, view_of}

module _ {S Rest : Type 0} where
  -- the drainer at its end: it was told to leave, keeps no sink, and all its ports have ended
  abbrev pub view_of_end : DrainEnd S Rest → DrainerView S Rest
  view_of_end end = record {
    inbox = end.inbox;
    ports = opened_ports end.ports.items;
    kept = [];
    away = end.put_away.items;
    keeps = end.put_away.keeps;
    misses = end.places.misses;
    taken = end.taken;
    left = true;
    fault = None;
  }

module _ {S Rest : Type 0} (acts : Acts S Rest) where
  -- the drainer handed in took all letters of its box and ended its ports: what it left is what the marked letters mean
  pub record DrainerServes (drainer : DrainerView S Rest) (end : DrainEnd S Rest) (log : Log S) : Type 0 where
    pub drains : Drains acts (view_of_end end) log
    pub each_bye : HasEachBye end.inbox
    -- where each Bye had come before, no letter was waited for
    pub over : HasEachBye drainer.inbox → end.inbox ≡ drainer.inbox
    pub places : KeepsDrainer drainer (view_of_end end)
    pub ports : AreSame drainer.ports end.ports.items

  -- there are such marks
  abbrev pub HasDrained : DrainerView S Rest → DrainEnd S Rest → Type 0
  HasDrained drainer end = (log : Log S) × DrainerServes drainer end log

  -- the drainer handed in stopped at its fault: what it left is what the marked letters mean, or at the fault of a subject what
  -- comes before that
  pub record DrainerStops (drainer : DrainerView S Rest) (stop : DrainStop S Rest) (log : Log S) : Type 0 where
    pub drains : Drains acts (view_of stop.left (has_left (length drainer.ports) log) (Some stop.fault)) log
    pub places : KeepsDrainer drainer (view_of stop.left (has_left (length drainer.ports) log) (Some stop.fault))
    -- that no letter comes is a fault only while a Bye has not come
    pub waited : stop.fault ≡ InboxGone → drainer.fault ≡ None → ¬ HasEachBye stop.left.parts.inbox

  -- there are such marks
  abbrev pub DrainerHasStopped : DrainerView S Rest → DrainStop S Rest → Type 0
  DrainerHasStopped drainer stop = (log : Log S) × DrainerStops drainer stop log

  -- it stopped at this fault, and left what is not kept
  abbrev pub DrainerHasFailed : DrainerView S Rest → DrainFault → Type 0
  DrainerHasFailed drainer fault = (stop : DrainStop S Rest) × DrainerHasStopped drainer stop × (stop.fault ≡ fault)
