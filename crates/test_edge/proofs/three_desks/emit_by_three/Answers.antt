use Rattle.std.proofs.Common.{◌≡◌, ◌∙◌, sym, subst, rules, List, [], ◌∷◌}
use Rattle.std.proofs.lemmas.List.Elements.{All-cons, All-nil}
use Rattle.std.specs.List.{All}
use Rattle.rx_pump.specs.Desks.{DeskView}
use Rattle.rx_server.specs.Servers.{IsDeskOf, IsEndOf}
use Rattle.test_edge.proofs.three_desks.emit_by_three.Goals as goal

pub returns : goal.returns
returns g c =
    let one = c.caller_of-first in
    let two = c.caller_of-second in
    let three = c.caller_of-third in
    let made = three.new.server.made in
    let own_one = subst (λ (l : List _). IsDeskOf l one.result.desk) (sym (three.ensures.same ∙ two.ensures.same ∙ one.ensures.same)) one.ensures.own in
    let own_two = subst (λ (l : List _). IsDeskOf l two.result.desk) (sym (three.ensures.same ∙ two.ensures.same)) two.ensures.own in
    let own_three = subst (λ (l : List _). IsDeskOf l three.result.desk) (sym three.ensures.same) three.ensures.own in
    let first = c.join-first.result.0 in
    let second = c.join-first.result.1.0 in
    let third = c.join-first.result.1.1 in
    let items : c.expect.result.items ≡ first ∷ (second ∷ (third ∷ [])) = search rules in
    let one_ends : (m : List (DeskView _)) → IsDeskOf m one.result.desk → IsEndOf m first = c.join-first.ensures.first in
    let both_end :
    ((m : List (DeskView _)) → IsDeskOf m two.result.desk → IsEndOf m second)
    × ((m : List (DeskView _)) → IsDeskOf m three.result.desk → IsEndOf m third) = c.join-first.ensures.second in
    subst (λ (l : List _). All (IsEndOf made) l) (sym items)
    (All-cons (IsEndOf made) first (second ∷ (third ∷ [])) (one_ends made own_one)
    (All-cons (IsEndOf made) second (third ∷ []) (both_end.0 made own_two)
    (All-cons (IsEndOf made) third [] (both_end.1 made own_three) (All-nil (IsEndOf made)))))
