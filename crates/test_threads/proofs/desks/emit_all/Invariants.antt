use Rattle.std.proofs.Common.{◌≡◌, ◌<◌, length}
use Rattle.rx_pump.specs.Pumps.{AreSame}
use Rattle.test_threads.proofs.desks.emit_all.Given as goal

-- the desk has its one port, and is of the same boxes
abbrev pub invariant-loop : goal.invariant-loop
invariant-loop g l = record {
  ports : AreSame l.initial.desk.ports l.desk.ports;
  some : 0 < length l.desk.ports;
  box : l.desk.inbox.box ≡ l.initial.desk.inbox.box;
  ended : l.desk.ended ≡ l.initial.desk.ended;
}
