use Rattle.std.proofs.Common.{ap, subst, length, Option, arith}
use Rattle.rx_pump.specs.Serving.{HasPumped, PumpHasFailed}
use Rattle.rx_server.specs.declared.wired.start_fault.Role.TheVariants.{Pump}
use Rattle.rx_server.specs.declared.close.close_fault.CloseFault.{CloseFault}
use Rattle.rx_server.proofs.Leaving.{HaveJoined, joined-all, joined-none, joined-next}
use Rattle.rx_server.proofs.Rows.{empty}
use Rattle.rx_server.proofs.close.join_pumps.Goals as goal

pub loop-running-init : goal.loop-running-init
loop-running-init g c = record {
  joined = joined-none HasPumped PumpHasFailed Pump c.reverse.new.self.items c.args.ends.now.items c.requires.empty;
  room = omega (arith, c.requires.room, c.reverse.ensures.len, ap length c.requires.empty, c.args.ends.now.ok);
}

-- one more ended
pub loop-running-preserved : goal.loop-running-preserved
loop-running-preserved g c =
    let before = c.loop-running.invariant in
    record {
      joined =
          joined-next HasPumped PumpHasFailed Pump c.reverse.new.self.items c.loop-running.pumps.items c.pop.new.self.items c.loop-running.ends.items c.keep.new.ends.items c.in-Some.running c.join.result
          c.loop-running.fault c.keep.new.fault c.in-Some.ensures.items c.join.ensures c.keep.ensures.kept before.joined;
      room = omega (arith, before.room, c.keep.ensures.room, c.keep.ensures.capacity, c.in-Some.ensures.cases);
    }

-- all have joined
pub returns-in-Some-fault : goal.returns-in-Some-fault
returns-in-Some-fault g c =
    let none = empty c.loop-running.pumps.items (omega (arith, c.in_default.ensures.cases, c.loop-running.pumps.ok)) in
    let joined = joined-all HasPumped PumpHasFailed Pump c.args.pumps.now.items c.reverse.new.self.items c.loop-running.pumps.items
    c.loop-running.ends.items c.loop-running.fault c.reverse.ensures.items none c.loop-running.invariant.joined in
    subst (λ (fault : Option CloseFault). HaveJoined HasPumped PumpHasFailed Pump c.args.pumps.now.items c.loop-running.ends.items fault) c.in-Some-fault.is joined
