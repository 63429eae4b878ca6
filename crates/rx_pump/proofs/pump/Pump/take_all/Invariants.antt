use Rattle.std.proofs.Common.{◌≡◌, None}
use Rattle.rx_mailbox.specs.Boxes.{HasEachBye}
use Rattle.rx_pump.specs.Pumps.{KeepsPump}
use Rattle.rx_pump.proofs.pump.Pump.take_all.Given as goal

-- it has no fault, its ports are the same, and it took no letter where the Bye of each port had come
abbrev pub invariant-loop : goal.invariant-loop
invariant-loop g l = record {
  whole : l.self.fault ≡ None;
  kept : KeepsPump l.initial.self l.self;
  none : HasEachBye l.initial.self.inbox → l.self.inbox ≡ l.initial.self.inbox;
}
