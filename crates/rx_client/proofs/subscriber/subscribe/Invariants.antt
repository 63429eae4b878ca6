use Rattle.std.proofs.Common.{◌≡◌}
use Rattle.rx_client.specs.Following.{new_follower}
use Rattle.rx_client.specs.Running.{StepsOn}
use Rattle.rx_client.proofs.subscriber.subscribe.Given as goal

-- what was heard so far was told
abbrev pub invariant-loop : goal.invariant-loop
invariant-loop g l =
    StepsOn l.fn.wanted.format (new_follower l.fn.wanted.from l.fn.wanted.may_overflow) l.subscriber.follower (g.W.Write.contents l.fn.writer) (g.W.Write.contents l.writer)
    × (l.subscriber.format ≡ l.fn.wanted.format)
