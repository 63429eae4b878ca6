-- The desks come back one after another.
use Rattle.std.proofs.Common.{◌≡◌, ◌∙◌, sym, inl, inr, [], length, map, reverse, vec_len, arith, rules}
use Rattle.std.proofs.lemmas.List.{length-map, length-reverse}
use Rattle.std.proofs.lemmas.Slice.Zip.{AllZip-long}
use Rattle.rx_workers.specs.Crews.{IsPortOf, worker_desk}
use Rattle.rx_workers.proofs.Crews.{out-one, out-all}
use Rattle.rx_workers.specs.Workers.{peers}
use Rattle.rx_workers.proofs.Service.{first-early, first-push, first_lost-none, first_lost-some, first_lost-within, none_lost, pair_last, some-none, some-one, some-all}
use Rattle.rx_workers.proofs.crew.ends.end_all.Goals as goal

pub loop-worker-init : goal.loop-worker-init
loop-worker-init g c = record {
  room = c.requires.room;
  count =
      let same = AllZip-long IsPortOf (reverse c.args.workers.items) (reverse c.args.ports.items) c.requires.ports in
      omega (arith, same, length-reverse c.args.workers.items, length-reverse c.args.ports.items);
  ports = c.requires.ports;
  out = λ all begins. begins;
  served = λ none here config xs new deals.
      some-none (peers g.M.Moments.tells g.C.Read.remaining g.W.Write.contents) config xs c.args.desks.now.items c.args.workers.items c.args.ports.items here new deals;
  first = λ place lost. absurd (none_lost place lost);
  lost = tt;
}

-- there is a port for each
pub unreachable-requires : goal.unreachable-requires
unreachable-requires g c = omega (arith, c.loop-worker.invariant.count, c.in-Some.ensures.cases, c.in_default-pop.ensures.cases)

-- it is one of the worker's box
pub end-desk-requires : goal.end-desk-requires
end-desk-requires g c =
    (pair_last IsPortOf c.loop-worker.workers.items c.pop.new.self.items c.in-Some.worker c.loop-worker.ports.items c.pop-in-Some.new.self.items c.in-Some-pop.port
    c.in-Some.ensures.items c.in-Some-pop.ensures.items c.loop-worker.invariant.ports).0

-- one more is back
pub loop-worker-preserved : goal.loop-worker-preserved
loop-worker-preserved g c =
    let before = c.loop-worker.invariant in
    let left = pair_last IsPortOf c.loop-worker.workers.items c.pop.new.self.items c.in-Some.worker c.loop-worker.ports.items c.pop-in-Some.new.self.items c.in-Some-pop.port
    c.in-Some.ensures.items c.in-Some-pop.ensures.items before.ports in
    record {
      room = omega (arith, before.room, c.in-Some.ensures.cases, c.push_reserved.ensures.len, c.push_reserved.ensures.capacity);
      count = omega (arith, before.count, c.in-Some.ensures.cases, c.in-Some-pop.ensures.cases);
      ports = left.1;
      out = λ all begins.
          out-one all c.loop-worker.desks.items c.push_reserved.new.self.items c.loop-worker.workers.items c.pop.new.self.items c.in-Some.worker c.end-desk.result.desk
          c.in-Some.ensures.items c.push_reserved.ensures.items c.end-desk.ensures.desk (before.out all begins);
      served = λ none here config xs new deals.
          let known = first_lost-none c.loop-worker.lost c.len-place.result c.end-desk.result.has_all (sym c.first_lost-lost.ensures ∙ none) in
          some-one (peers g.M.Moments.tells g.C.Read.remaining g.W.Write.contents) config (length c.args.workers.items) xs (map worker_desk (reverse c.args.workers.items))
          c.loop-worker.desks.items c.push_reserved.new.self.items c.loop-worker.workers.items c.pop.new.self.items c.loop-worker.ports.items c.pop-in-Some.new.self.items
          c.in-Some.worker c.in-Some-pop.port c.end-desk.result.desk c.in-Some.ensures.items c.in-Some-pop.ensures.items c.push_reserved.ensures.items
          (λ ys one port_is. c.end-desk.ensures.served known.1 config ys one port_is) (before.served known.0 here config xs new deals);
      first = λ place is here config xs new deals. elim (first_lost-some c.loop-worker.lost c.len-place.result c.end-desk.result.has_all place (sym c.first_lost-lost.ensures ∙ is)) [
        | inl was ↦
            first-push (peers g.M.Moments.tells g.C.Read.remaining g.W.Write.contents) config xs place (map worker_desk (reverse c.args.workers.items)) c.loop-worker.desks.items c.push_reserved.new.self.items c.end-desk.result.desk
            c.push_reserved.ensures.items (before.first place was here config xs new deals)
        | inr (none, early, place_is) ↦
            let all = map worker_desk (reverse c.args.workers.items) in
            let count : length c.args.workers.items ≡ length all = sym (length-map (reverse c.args.workers.items) worker_desk ∙ length-reverse c.args.workers.items) in
            first-early (peers g.M.Moments.tells g.C.Read.remaining g.W.Write.contents) config (length c.args.workers.items) xs all c.loop-worker.desks.items c.push_reserved.new.self.items c.loop-worker.workers.items
            c.pop.new.self.items c.loop-worker.ports.items c.pop-in-Some.new.self.items c.in-Some.worker c.in-Some-pop.port c.end-desk.result.desk place count
            (omega (arith, place_is, c.len-place.ensures)) c.in-Some.ensures.items c.in-Some-pop.ensures.items c.push_reserved.ensures.items
            (λ ys one port_is. c.end-desk.ensures.early early config ys one port_is) (before.served none here config xs new deals)
      ];
      lost =
          rw c.first_lost-lost.ensures
          (first_lost-within c.loop-worker.lost c.len-place.result c.end-desk.result.has_all (vec_len c.loop-worker.desks) (vec_len c.push_reserved.new.self) before.lost
          (omega (arith, c.push_reserved.ensures.len)) (omega (arith, c.len-place.ensures, c.push_reserved.ensures.len)));
    }

-- all are
pub returns-clause-desks : goal.returns-clause-desks
returns-clause-desks g c =
    let none : c.loop-worker.workers.items ≡ [] = search rules in
    λ all begins. out-all all c.loop-worker.desks.items c.loop-worker.workers.items none (c.loop-worker.invariant.out all begins)

pub returns-clause-served : goal.returns-clause-served
returns-clause-served g c =
    let none : c.loop-worker.workers.items ≡ [] = search rules in
    let count : length c.args.workers.items ≡ length (map worker_desk (reverse c.args.workers.items)) =
    sym (length-map (reverse c.args.workers.items) worker_desk ∙ length-reverse c.args.workers.items) in
    λ unlost here config xs new deals.
    some-all (peers g.M.Moments.tells g.C.Read.remaining g.W.Write.contents) config (length c.args.workers.items) xs (map worker_desk (reverse c.args.workers.items))
    c.loop-worker.desks.items c.loop-worker.workers.items c.loop-worker.ports.items none count (c.loop-worker.invariant.served unlost here config xs new deals)
