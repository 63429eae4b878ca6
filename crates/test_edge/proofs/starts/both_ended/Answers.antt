use Rattle.std.proofs.Common.{◌≡◌, ◌∙◌, sym, subst, rules, List, [], ◌∷◌}
use Rattle.std.proofs.lemmas.List.Elements.{All-cons, All-nil}
use Rattle.std.specs.List.{All}
use Rattle.rx_server.specs.Servers.{IsDeskOf, IsEndOf}
use Rattle.test_edge.proofs.starts.both_ended.Goals as goal

pub returns : goal.returns
returns g c =
    let one = c.caller_of-first in
    let two = c.caller_of-second in
    let made = two.new.server.made in
    let own_one = subst (λ (l : List _). IsDeskOf l one.result.desk) (sym (two.ensures.same ∙ one.ensures.same)) one.ensures.own in
    let own_two = subst (λ (l : List _). IsDeskOf l two.result.desk) (sym two.ensures.same) two.ensures.own in
    let first = c.finish.result in
    let second = c.finish-2.result in
    let items : c.expect.result.items ≡ first ∷ (second ∷ []) = search rules in
    subst (λ (l : List _). All (IsEndOf made) l) (sym items)
    (All-cons (IsEndOf made) first (second ∷ []) (c.finish.ensures made own_one)
    (All-cons (IsEndOf made) second [] (c.finish-2.ensures made own_two) (All-nil (IsEndOf made))))
