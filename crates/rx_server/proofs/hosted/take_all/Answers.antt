use Rattle.std.proofs.Common.{◌∙◌, sym, ap, [], ◌∷◌, ◌++◌, List, append_assoc, append-nil, length, arith}
use Rattle.std.specs.Vec.Iter.{into_iter_items}
use Rattle.rx_server.proofs.Rows.{empty}
use Rattle.rx_server.proofs.hosted.take_all.Goals as goal

-- one more was taken
pub loop-one-preserved : goal.loop-one-preserved
loop-one-preserved g c =
    let cut = c.in-Some.ensures.items in
    record {
      parts =
          ap (λ (l : List _). l ++ into_iter_items c.next.new.self) c.push_reserved.ensures.items
          ∙ append_assoc c.loop-one.taken.items (c.in-Some.one ∷ []) (into_iter_items c.next.new.self)
          ∙ ap (λ (l : List _). c.loop-one.taken.items ++ l) (sym cut)
          ∙ c.loop-one.invariant.parts;
      room = omega (arith, c.loop-one.invariant.room, ap length cut, c.push_reserved.ensures.len, c.push_reserved.ensures.capacity);
    }

-- none is left
pub returns-clause-taken : goal.returns-clause-taken
returns-clause-taken g c =
    let none = empty (into_iter_items c.loop-one.left) (omega (arith, c.in_default.ensures.cases)) in
    sym (append-nil c.loop-one.taken.items)
    ∙ ap (λ (l : List _). c.loop-one.taken.items ++ l) (sym none)
    ∙ c.loop-one.invariant.parts

pub returns-clause-none : goal.returns-clause-none
returns-clause-none g c = empty (into_iter_items c.next.new.self) (omega (arith, c.in_default.ensures.cases))
