use Rattle.std.proofs.Common.{◌≡◌, sym, subst, rules, List, [], ◌∷◌}
use Rattle.std.proofs.lemmas.List.Elements.{All-cons, All-nil}
use Rattle.std.specs.List.{All}
use Rattle.rx_pump.specs.Desks.{DeskView}
use Rattle.rx_server.specs.Servers.{IsDeskOf, IsEndOf}
use Rattle.test_edge.proofs.servers.emit_both.Goals as goal

pub returns : goal.returns
returns g c =
    λ made one two.
    let first = c.join-first.result.0 in
    let second = c.join-first.result.1 in
    let items : c.expect.result.items ≡ first ∷ (second ∷ []) = search rules in
    let first_ends : (m : List (DeskView _)) → IsDeskOf m c.args.first.desk → IsEndOf m first = c.join-first.ensures.first in
    let second_ends : (m : List (DeskView _)) → IsDeskOf m c.args.second.desk → IsEndOf m second = c.join-first.ensures.second in
    subst (λ (l : List _). All (IsEndOf made) l) (sym items)
    (All-cons (IsEndOf made) first (second ∷ []) (first_ends made one)
    (All-cons (IsEndOf made) second [] (second_ends made two) (All-nil (IsEndOf made))))
