use Rattle.std.proofs.Common.{◌≡◌, ◌∙◌, subst, List, [], reverse, append-nil, vec_len, arith, rules}
use Rattle.rx_sink.specs.declared.kept.Kept.{Kept}
use Rattle.rx_sink.proofs.Tending.{Emptied, Emptied-more, left_stands}
use Rattle.rx_sink.proofs.kept_sinks.put_all_away.Goals as goal

pub loop-one-preserved : goal.loop-one-preserved
loop-one-preserved g c =
    let before = c.loop-one.invariant in
    record {
      room = c.push_away.ensures.room (vec_len c.pop.new.self) (λ is. omega (arith, before.room is, c.in-Some.ensures.cases));
      keeps = c.push_away.ensures.keeps ∙ before.keeps;
      emptied = Emptied-more g.S.Sink.acts _ c.loop-one.kept.items c.pop.new.self.items c.in-Some.one c.args.away.now.items c.loop-one.away.items c.push_away.new.away.items
          c.in-Some.ensures.items c.push_away.ensures.pushes before.emptied;
    }

pub returns-clause-closes : goal.returns-clause-closes
returns-clause-closes g c = λ held gone stand.
    let empty : c.pop.new.self.items ≡ [] = search rules in
    left_stands g.S.Sink.acts c.args.kept.now.items c.reverse.new.self.items c.pop.new.self.items c.args.away.now.items c.loop-one.away.items held gone
    c.reverse.ensures.items empty
    (subst (λ (l : List (Kept _)). Emptied g.S.Sink.acts (reverse c.reverse.new.self.items) l c.args.away.now.items c.loop-one.away.items) (c.in_default.ensures.items ∙ append-nil c.pop.new.self.items) c.loop-one.invariant.emptied)
    stand
