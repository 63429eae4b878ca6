use Rattle.std.proofs.Common.{◌≡◌, [], ◌∷◌, rules}
use Rattle.test_threads.proofs.Bodies.{both_got}
use Rattle.test_threads.proofs.two_threads.settle_two.Goals as goal

pub returns-clause-first : goal.returns-clause-first
returns-clause-first g c =
    let two : c.expect-ports.result.items ≡ c.args.first ∷ c.args.second ∷ [] = search rules in
    (both_got _ _ _ _ _ two c.in-Ok.ensures.received c.in-Ok.ensures.shares).0

pub returns-clause-second : goal.returns-clause-second
returns-clause-second g c =
    let two : c.expect-ports.result.items ≡ c.args.first ∷ c.args.second ∷ [] = search rules in
    (both_got _ _ _ _ _ two c.in-Ok.ensures.received c.in-Ok.ensures.shares).1
