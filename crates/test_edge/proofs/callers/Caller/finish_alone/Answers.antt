use Rattle.std.proofs.Common.{◌≡◌, sym, subst, rules, List, [], ◌∷◌}
use Rattle.std.proofs.lemmas.List.Elements.{All-cons, All-nil}
use Rattle.std.specs.List.{All}
use Rattle.rx_server.specs.Servers.{IsEndOf}
use Rattle.test_edge.proofs.callers.Caller.finish_alone.Goals as goal

pub returns : goal.returns
returns g c =
    λ made is.
    let items : c.expect.result.items ≡ c.finish.result ∷ [] = search rules in
    subst (λ (l : List _). All (IsEndOf made) l) (sym items) (All-cons (IsEndOf made) c.finish.result [] (c.finish.ensures made is) (All-nil (IsEndOf made)))
