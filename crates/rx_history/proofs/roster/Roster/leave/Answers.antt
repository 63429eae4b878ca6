use Rattle.std.proofs.Common.{◌≤◌, ◌+◌, get_or, arith, ◌∙◌}
use Rattle.std.proofs.lemmas.List.{length-set}
use Rattle.rx_history.proofs.Leaving.{stays, one_more_at_most, keeps_one, rest_stays}
use Rattle.rx_history.proofs.roster.Roster.leave.Goals as goal

pub loop-place-preserved : goal.loop-place-preserved
loop-place-preserved c =
    let l = c.loop-place in
    let was = l.invariant in
    let xs = l.self-inside.numbers in
    let one : c.count_with-kept.result ≤ l.kept + 1 = one_more_at_most (stays c.args.who (get_or xs l.place 0)) l.kept c.count_with-kept.result c.count_with-kept.ensures in
    record {
      behind = omega (arith, was.behind, one);
      within = omega (arith, was.within, was.same_count, c.loop-place-test.true);
      same_joins = was.same_joins;
      same_count = was.same_count;
      full = length-set xs l.kept (get_or xs l.place 0) ∙ was.full;
      kept_are =
          keeps_one xs c.self.inside.numbers l.kept l.place c.args.who c.count_with-kept.result was.behind
          (omega (arith, c.loop-place-test.true, was.full, c.self.invariant))
          (omega (arith, c.loop-place-test.true, c.self.told, c.self.invariant)) was.kept_are was.rest_is c.count_with-kept.ensures;
      rest_is = rest_stays xs c.self.inside.numbers l.kept l.place (get_or xs l.place 0) was.behind was.rest_is;
    }
