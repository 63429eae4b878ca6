use Rattle.std.proofs.Common.{◌∙◌, ap, subst, length, map, Option, arith}
use Rattle.std.proofs.lemmas.List.{map_push}
use Rattle.rx_drain.specs.Serving.{HasDrained, DrainerHasFailed}
use Rattle.rx_server.specs.declared.wired.start_fault.Role.TheVariants.{Drainer}
use Rattle.rx_server.specs.declared.close.close_fault.CloseFault.{CloseFault}
use Rattle.rx_drain.specs.declared.running_drainer.RunningDrainer.{RunningDrainer}
use Rattle.rx_server.proofs.Leaving.{HaveJoined, joined-all, joined-none, joined-next, map_reverse}
use Rattle.rx_server.proofs.Rows.{empty}
use Rattle.rx_server.proofs.close.join_drainers.Goals as goal

pub loop-running-init : goal.loop-running-init
loop-running-init g c = record {
  joined = joined-none (HasDrained g.S.Sink.acts) (DrainerHasFailed g.S.Sink.acts) Drainer (map (λ drainer. drainer.handle.promise.0.value) c.reverse.new.self.items) c.args.ends.now.items c.requires.empty;
  room = omega (arith, c.requires.room, c.reverse.ensures.len, ap length c.requires.empty, c.args.ends.now.ok);
}

-- one more ended
pub loop-running-preserved : goal.loop-running-preserved
loop-running-preserved g c =
    let before = c.loop-running.invariant in
    record {
      joined =
          joined-next (HasDrained g.S.Sink.acts) (DrainerHasFailed g.S.Sink.acts) Drainer (map (λ drainer. drainer.handle.promise.0.value) c.reverse.new.self.items) (map (λ drainer. drainer.handle.promise.0.value) c.loop-running.drainers.items) (map (λ drainer. drainer.handle.promise.0.value) c.pop.new.self.items) c.loop-running.ends.items c.keep.new.ends.items c.in-Some.running.handle.promise.0.value c.join.result
          c.loop-running.fault c.keep.new.fault (ap (map (λ drainer. drainer.handle.promise.0.value)) c.in-Some.ensures.items ∙ map_push (λ drainer. drainer.handle.promise.0.value) c.pop.new.self.items c.in-Some.running) c.join.ensures c.keep.ensures.kept before.joined;
      room = omega (arith, before.room, c.keep.ensures.room, c.keep.ensures.capacity, c.in-Some.ensures.cases);
    }

-- all have joined
pub returns-in-None : goal.returns-in-None
returns-in-None g c =
    let f = λ (drainer : RunningDrainer _ _). drainer.handle.promise.0.value in
    let none = empty c.loop-running.drainers.items (omega (arith, c.in_default.ensures.cases, c.loop-running.drainers.ok)) in
    let turned = ap (map f) c.reverse.ensures.items ∙ map_reverse f c.args.drainers.now.items in
    let joined = joined-all (HasDrained g.S.Sink.acts) (DrainerHasFailed g.S.Sink.acts) Drainer (map f c.args.drainers.now.items) (map f c.reverse.new.self.items) (map f c.loop-running.drainers.items)
    c.loop-running.ends.items c.loop-running.fault turned (ap (map f) none) c.loop-running.invariant.joined in
    subst (λ (fault : Option CloseFault). HaveJoined (HasDrained g.S.Sink.acts) (DrainerHasFailed g.S.Sink.acts) Drainer (map f c.args.drainers.now.items) c.loop-running.ends.items fault) c.in-None.is joined

pub returns-in-Some-fault : goal.returns-in-Some-fault
returns-in-Some-fault g c =
    let f = λ (drainer : RunningDrainer _ _). drainer.handle.promise.0.value in
    let none = empty c.loop-running.drainers.items (omega (arith, c.in_default.ensures.cases, c.loop-running.drainers.ok)) in
    let turned = ap (map f) c.reverse.ensures.items ∙ map_reverse f c.args.drainers.now.items in
    let joined = joined-all (HasDrained g.S.Sink.acts) (DrainerHasFailed g.S.Sink.acts) Drainer (map f c.args.drainers.now.items) (map f c.reverse.new.self.items) (map f c.loop-running.drainers.items)
    c.loop-running.ends.items c.loop-running.fault turned (ap (map f) none) c.loop-running.invariant.joined in
    subst (λ (fault : Option CloseFault). HaveJoined (HasDrained g.S.Sink.acts) (DrainerHasFailed g.S.Sink.acts) Drainer (map f c.args.drainers.now.items) c.loop-running.ends.items fault) c.in-Some-fault.is joined
