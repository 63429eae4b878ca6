use Rattle.std.proofs.Common.{◌≡◌, ◌∙◌, [], ap, length, map, arith, rules}
use Rattle.std.proofs.lemmas.List.{map_push}
use Rattle.rx_server.proofs.Starting.{started-none, started-one, started-all}
use Rattle.rx_server.proofs.wired.running.start_drainers.Goals as goal

pub loop-drainer-init : goal.loop-drainer-init
loop-drainer-init g c = record {
  started =
      started-none c.reverse.new.self.items (map (λ drainer. drainer.handle.promise.0.value) c.args.running.now.items)
      (ap (map (λ drainer. drainer.handle.promise.0.value)) c.requires.none);
  room = omega (arith, c.requires.room, c.reverse.ensures.len, ap length c.requires.none, c.args.running.now.ok);
  count = omega (arith, ap length c.requires.none, c.args.running.now.ok);
}

-- one more runs
pub loop-drainer-preserved : goal.loop-drainer-preserved
loop-drainer-preserved g c = record {
  started =
      started-one c.reverse.new.self.items (map (λ drainer. drainer.handle.promise.0.value) c.loop-drainer.running.items)
      (map (λ drainer. drainer.handle.promise.0.value) c.push_reserved.new.self.items) c.loop-drainer.drainers.items c.pop.new.self.items c.in-Some.drainer c.in-Ok.one.handle.promise.0.value
      c.in-Some.ensures.items
      (ap (map (λ drainer. drainer.handle.promise.0.value)) c.push_reserved.ensures.items ∙ map_push (λ drainer. drainer.handle.promise.0.value) c.loop-drainer.running.items c.in-Ok.one)
      c.in-Ok.ensures c.loop-drainer.invariant.started;
  room = omega (arith, c.loop-drainer.invariant.room, c.in-Some.ensures.cases, c.push_reserved.ensures.len, c.push_reserved.ensures.capacity);
  count = omega (arith, c.loop-drainer.invariant.count, c.in-Some.ensures.cases, c.push_reserved.ensures.len);
}

-- all run
pub returns-clause-started : goal.returns-clause-started
returns-clause-started g c =
    let none : c.loop-drainer.drainers.items ≡ [] = search rules in
    started-all c.args.drainers.now.items c.reverse.new.self.items (map (λ drainer. drainer.handle.promise.0.value) c.loop-drainer.running.items) c.loop-drainer.drainers.items
    c.reverse.ensures.items none c.loop-drainer.invariant.started

-- the one behind those that run was not started
pub returns-in_default-start_drainer-clause-fewer : goal.returns-in_default-start_drainer-clause-fewer
returns-in_default-start_drainer-clause-fewer g c = omega (arith, c.loop-drainer.invariant.count, c.in-Some.ensures.cases, c.reverse.ensures.len)
