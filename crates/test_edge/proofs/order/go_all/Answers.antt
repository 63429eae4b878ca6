use Rattle.std.proofs.Common.{List, [], ◌∷◌}
use Rattle.std.proofs.lemmas.List.Elements.{All-cons, All-nil, All-same}
use Rattle.rx_server.specs.Servers.{IsEndOf}
use Rattle.rx_server.proofs.Desks.{desk-goes, keeps-none, keeps-then}
use Rattle.test_edge.proofs.order.go_all.Goals as goal

pub loop-round-init : goal.loop-round-init
loop-round-init g c = record {
  first = keeps-none c.args.callers.first.desk;
  second = keeps-none c.args.callers.second.desk;
  third = c.act_all.ensures;
}

pub loop-round-preserved : goal.loop-round-preserved
loop-round-preserved g c =
    let before = c.loop-round.invariant in
    let now = c.loop-round.callers in
    let after = c.in_ok-callers.callers in
    record {
      first = keeps-then c.args.callers.first.desk now.first.desk after.first.desk before.first c.in_ok-callers.ensures.0;
      second = keeps-then c.args.callers.second.desk now.second.desk after.second.desk before.second c.in_ok-callers.ensures.1;
      third = keeps-then c.args.callers.third.desk now.third.desk after.third.desk before.third c.in_ok-callers.ensures.2;
    }

-- each is of the server of its desk
pub returns : goal.returns
returns g c =
    λ made one two three.
    let kept = c.loop-round.invariant in
    let now = c.loop-round.callers in
    let first = c.finish.ensures made (desk-goes made c.args.callers.first.desk now.first.desk kept.first one) in
    let second = c.finish-2.ensures made (desk-goes made c.args.callers.second.desk now.second.desk kept.second two) in
    let third_kept = keeps-then c.args.callers.third.desk now.third.desk c.act_all-2.new.caller.desk kept.third c.act_all-2.ensures in
    let third = c.finish-3.ensures made (desk-goes made c.args.callers.third.desk c.act_all-2.new.caller.desk third_kept three) in
    All-same (IsEndOf made) _ _ c.in_ok-vec.ensures.items
    (All-cons (IsEndOf made) c.finish.result (c.finish-2.result ∷ (c.finish-3.result ∷ [])) first
    (All-cons (IsEndOf made) c.finish-2.result (c.finish-3.result ∷ []) second
    (All-cons (IsEndOf made) c.finish-3.result [] third (All-nil (IsEndOf made)))))
