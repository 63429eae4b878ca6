use Rattle.std.proofs.Common.{ap, [], ◌∷◌, ◌++◌, Some, arith}
use Rattle.std.proofs.lemmas.List.Elements.{All-pop, All-push, All-same}
use Rattle.std.specs.Arc.{arc_value}
use Rattle.rx_workers.specs.Crews.{IsFor, worker_desk}
use Rattle.rx_workers.specs.Service.{IsNewOver}
use Rattle.rx_desk.specs.SessionDesks.{SessionView}
use Rattle.rx_workers.specs.Working.{WorkerView}
use Rattle.rx_workers.proofs.Service.{new_own, ports_more}
use Rattle.rx_workers.proofs.Crews.{All-first, split-one, split-back}
use Rattle.rx_workers.proofs.crew.hires.hire_all.Goals as goal

-- there is what waits for each desk
pub unreachable-requires : goal.unreachable-requires
unreachable-requires g c = omega (arith, c.loop-desk.invariant.waits, c.in-Some.ensures.cases, c.in_default-pop.ensures.cases)

-- the last desk is one of the configuration
pub hire-requires-after_bounds : goal.hire-requires-after_bounds
hire-requires-after_bounds g c =
    let P = IsFor (arc_value c.args.config.now) in
    let fits : P c.in-Some.desk = (All-pop P c.loop-desk.desks.items c.pop.new.self.items (Some c.in-Some.desk) c.in-Some.ensures.items c.loop-desk.invariant.fit).1 in
    λ _ _. fits

-- one more was hired
pub loop-desk-preserved : goal.loop-desk-preserved
loop-desk-preserved g c =
    let before = c.loop-desk.invariant in
    let P = IsFor (arc_value c.args.config.now) in
    let Q : WorkerView (Unit {0}) _ _ → Type 0 = λ one. IsNewOver (arc_value c.args.config.now) (worker_desk one) one in
    record {
      fit = All-first P c.loop-desk.desks.items c.pop.new.self.items c.in-Some.desk c.in-Some.ensures.items before.fit;
      split =
          split-one c.args.desks.now.items c.loop-desk.desks.items c.pop.new.self.items c.loop-desk.workers.items c.push_reserved.new.self.items c.in-Some.desk c.in-Ok.hired.0
          c.in-Some.ensures.items c.push_reserved.ensures.items (ap (λ (s : SessionView _ _). s.calls) c.in-Ok.ensures.0.session) before.split;
      room = omega (arith, before.room, c.in-Some.ensures.cases, c.in-Some.ensures.capacity, c.push_reserved.ensures.len);
      workers = omega (arith, before.workers, c.in-Some.ensures.cases, c.push_reserved.ensures.len, c.push_reserved.ensures.capacity);
      ports = omega (arith, before.ports, c.in-Some.ensures.cases, c.push_reserved-in-Ok.ensures.len, c.push_reserved-in-Ok.ensures.capacity);
      count = omega (arith, before.count, c.in-Some.ensures.cases, c.push_reserved-in-Ok.ensures.len);
      waits = omega (arith, before.waits, c.in-Some.ensures.cases, c.in-Some-pop.ensures.cases);
      new =
          All-same Q c.push_reserved.new.self.items (c.loop-desk.workers.items ++ c.in-Ok.hired.0 ∷ []) c.push_reserved.ensures.items
          (All-push Q c.loop-desk.workers.items c.in-Ok.hired.0 before.new (new_own (arc_value c.args.config.now) c.in-Some.desk c.in-Ok.hired.0 c.in-Ok.ensures.0));
      ports_are =
          ports_more c.loop-desk.workers.items c.push_reserved.new.self.items c.loop-desk.ports.items c.push_reserved-in-Ok.new.self.items c.in-Ok.hired.0 c.in-Ok.hired.1
          before.ports_are c.in-Ok.ensures.1 c.push_reserved.ensures.items c.push_reserved-in-Ok.ensures.items;
    }

-- there is no worker for this one
pub returns-in-Err-clause-out : goal.returns-in-Err-clause-out
returns-in-Err-clause-out g c =
    split-back c.args.desks.now.items c.loop-desk.desks.items c.pop.new.self.items c.push_reserved-in-Err.new.self.items c.loop-desk.workers.items c.in-Some.desk c.in-Err.back.desk
    c.in-Some.ensures.items c.push_reserved-in-Err.ensures.items c.in-Err.ensures c.loop-desk.invariant.split

pub returns-in-Err-clause-new : goal.returns-in-Err-clause-new
returns-in-Err-clause-new g c = c.loop-desk.invariant.new

pub returns-in-Err-clause-ports : goal.returns-in-Err-clause-ports
returns-in-Err-clause-ports g c = c.loop-desk.invariant.ports_are

-- each has one
pub returns-clause-new : goal.returns-clause-new
returns-clause-new g c = c.loop-desk.invariant.new

pub returns-clause-ports : goal.returns-clause-ports
returns-clause-ports g c = c.loop-desk.invariant.ports_are
