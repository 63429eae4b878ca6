use Rattle.std.proofs.Common.{◌≡◌}
use Rattle.rx_client.specs.Running.{StepsOn}
use Rattle.rx_client.proofs.subscriber.Subscriber.listen.Given as goal

-- what was heard so far was told
abbrev pub invariant-loop : goal.invariant-loop
invariant-loop g l =
    StepsOn l.fn.self.format l.fn.self.follower l.self.follower (g.W.Write.contents l.fn.writer) (g.W.Write.contents l.writer) × (l.self.format ≡ l.fn.self.format)
