use Rattle.std.proofs.Common.{◌≡◌, [], ap, length, arith, rules}
use Rattle.rx_server.proofs.Starting.{started-none, started-one, started-all}
use Rattle.rx_server.proofs.wired.running.start_pumps.Goals as goal

pub loop-pump-init : goal.loop-pump-init
loop-pump-init g c = record {
  started = started-none c.reverse.new.self.items c.args.running.now.items c.requires.none;
  room = omega (arith, c.requires.room, c.reverse.ensures.len, ap length c.requires.none, c.args.running.now.ok);
  count = omega (arith, ap length c.requires.none, c.args.running.now.ok);
}

-- one more runs
pub loop-pump-preserved : goal.loop-pump-preserved
loop-pump-preserved g c = record {
  started =
      started-one c.reverse.new.self.items c.loop-pump.running.items c.push_reserved.new.self.items c.loop-pump.pumps.items c.pop.new.self.items c.in-Some.pump c.in-Ok.one
      c.in-Some.ensures.items c.push_reserved.ensures.items c.in-Ok.ensures c.loop-pump.invariant.started;
  room = omega (arith, c.loop-pump.invariant.room, c.in-Some.ensures.cases, c.push_reserved.ensures.len, c.push_reserved.ensures.capacity);
  count = omega (arith, c.loop-pump.invariant.count, c.in-Some.ensures.cases, c.push_reserved.ensures.len);
}

-- all run
pub returns-clause-started : goal.returns-clause-started
returns-clause-started g c =
    let none : c.loop-pump.pumps.items ≡ [] = search rules in
    started-all c.args.pumps.now.items c.reverse.new.self.items c.loop-pump.running.items c.loop-pump.pumps.items c.reverse.ensures.items none c.loop-pump.invariant.started

-- the one behind those that run was not started
pub returns-in_default-start_pump-clause-fewer : goal.returns-in_default-start_pump-clause-fewer
returns-in_default-start_pump-clause-fewer g c = omega (arith, c.loop-pump.invariant.count, c.in-Some.ensures.cases, c.reverse.ensures.len)
