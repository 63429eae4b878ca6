use Rattle.std.proofs.Common.{take}
use Rattle.rx_server.specs.Wirings.{AreHubsOf}
use Rattle.rx_server.proofs.wired.makers.make_hubs.Given as goal

-- the subjects before this one have their hubs
abbrev pub invariant-loop-subject : goal.invariant-loop-subject
invariant-loop-subject l = AreHubsOf (take l.subject-index l.fn.subjects.items) l.hubs.items
