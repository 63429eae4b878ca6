use Rattle.std.proofs.Common.{sym, ap, append-nil, length, None, Some, arith}
use Rattle.std.specs.Vec.Iter.{into_iter_items}
use Rattle.rx_server.proofs.Desks.{any-left, ended-lost, ended-more, ended-none, gone-all, gone-more, gone-none}
use Rattle.rx_server.proofs.Rows.{empty}
use Rattle.rx_server.proofs.close.finish_desks.Goals as goal

pub loop-desk-init : goal.loop-desk-init
loop-desk-init g c = record {
  room = c.requires;
  gone = gone-none (into_iter_items c.args.desks.now) c.args.ended.now.items;
  ends = λ made. ended-none made (into_iter_items c.args.desks.now) c.args.ended.now.items;
}

-- one more ended
pub loop-desk-preserved-in-Ok : goal.loop-desk-preserved-in-Ok
loop-desk-preserved-in-Ok g c =
    let before = c.loop-desk.invariant in
    record {
      room = omega (arith, before.room, c.push_reserved.ensures.len, c.push_reserved.ensures.capacity, ap length c.in-Some.ensures.items);
      gone =
          gone-more (into_iter_items c.args.desks.now) c.args.ended.now.items c.loop-desk.ended.items c.push_reserved.new.self.items
          c.in-Some.desk (Some c.in-Ok.desk) (into_iter_items c.loop-desk.desks) (into_iter_items c.next.new.self)
          c.in-Some.ensures.items c.push_reserved.ensures.items c.in-Ok.ensures.ended before.gone;
      ends =
          λ made. ended-more made (into_iter_items c.args.desks.now) c.args.ended.now.items c.loop-desk.ended.items c.push_reserved.new.self.items
          c.in-Some.desk c.in-Ok.desk (into_iter_items c.loop-desk.desks) (into_iter_items c.next.new.self)
          c.in-Some.ensures.items c.push_reserved.ensures.items c.in-Ok.ensures.ended.0 c.in-Ok.ensures.ended.1 (before.ends made);
    }

-- one was given up
pub loop-desk-preserved-in_default-finish : goal.loop-desk-preserved-in_default-finish
loop-desk-preserved-in_default-finish g c =
    let before = c.loop-desk.invariant in
    record {
      room = omega (arith, before.room, ap length c.in-Some.ensures.items);
      gone =
          gone-more (into_iter_items c.args.desks.now) c.args.ended.now.items c.loop-desk.ended.items c.loop-desk.ended.items
          c.in-Some.desk None (into_iter_items c.loop-desk.desks) (into_iter_items c.next.new.self)
          c.in-Some.ensures.items (sym (append-nil c.loop-desk.ended.items)) (any-left _ _ _ _ c.in_default-finish.ensures.ended.0) before.gone;
      ends =
          λ made. ended-lost made (into_iter_items c.args.desks.now) c.args.ended.now.items c.loop-desk.ended.items
          c.in-Some.desk (into_iter_items c.loop-desk.desks) (into_iter_items c.next.new.self) c.in-Some.ensures.items (before.ends made);
    }

-- none is left
pub returns-clause-none : goal.returns-clause-none
returns-clause-none g c = empty (into_iter_items c.next.new.self) (omega (arith, c.in_default.ensures.cases))

pub returns-clause-each : goal.returns-clause-each
returns-clause-each g c =
    gone-all (into_iter_items c.args.desks.now) c.args.ended.now.items c.loop-desk.ended.items (into_iter_items c.loop-desk.desks)
    (empty (into_iter_items c.loop-desk.desks) (omega (arith, c.in_default.ensures.cases))) c.loop-desk.invariant.gone

pub returns-clause-own : goal.returns-clause-own
returns-clause-own g c = λ made all. ((c.loop-desk.invariant.ends made).so_far all).0
