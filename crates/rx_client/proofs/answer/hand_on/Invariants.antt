use Rattle.std.proofs.Common.{◌≡◌}
use Rattle.std.specs.Io.KnownBytes.{Consumes}
use Rattle.rx_client.proofs.answer.hand_on.Given as goal

-- what was read so far has come, and nothing was written
abbrev pub invariant-loop : goal.invariant-loop
invariant-loop g l =
    Consumes (g.R.Read.remaining l.fn.peer) (g.R.Read.remaining l.peer) l.came.items × (g.W.Write.contents l.writer ≡ g.W.Write.contents l.fn.writer)
