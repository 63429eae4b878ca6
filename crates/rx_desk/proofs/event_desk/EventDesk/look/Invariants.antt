use Rattle.std.proofs.Common.{◌≡◌}
use Rattle.rx_desk.specs.EventDesks.{LookedAt}
use Rattle.rx_desk.proofs.event_desk.EventDesk.look.Given as goal

-- the subjects before were looked at, and nothing else was done
abbrev pub invariant-loop-place : goal.invariant-loop-place
invariant-loop-place g l = LookedAt l.place l.initial.self l.self × (l.self.session.subjects ≡ l.initial.self.session.subjects)
