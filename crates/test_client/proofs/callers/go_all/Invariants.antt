use Rattle.std.proofs.Common.{◌≡◌}
use Rattle.test_client.proofs.callers.go_all.Given as goal

-- it is a caller of the same server
abbrev pub invariant-loop-subject : goal.invariant-loop-subject
invariant-loop-subject g l = l.caller.made ≡ l.initial.caller.made
