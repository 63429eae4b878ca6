use Rattle.std.proofs.Common.{◌≡◌, ◌+◌, ◌*◌, ◌<◌, ◌≤◌, ℕ, List, Option, length}
use Rattle.rx_session.specs.Gathering.{Gathering}
use Rattle.rx_session.specs.OpenSessions.{Sitting}
use Rattle.rx_session.specs.Sessions.{Place, parties}
use Rattle.rx_lines.specs.Steps.{unread}
use Rattle.rx_session.proofs.open_session.OpenSession.carry_lines.Given as goal

abbrev pub invariant-loop-line : goal.invariant-loop-line
invariant-loop-line g l =
    ((start : Place g.row.D.Denot g.row.W.Denot) (first : List ℕ) (read_old read_now : Option (List ℕ))
    → Sitting (parties g.D.Desk.knows g.D.Desk.emits g.D.Desk.follows g.W.Write.contents) start first read_old read_now l.initial.desk l.initial.held l.initial.self
    → Gathering (parties g.D.Desk.knows g.D.Desk.emits g.D.Desk.follows g.W.Write.contents) g.D.Desk.waits start first read_old read_now l.desk l.held l.self l.begun)
    × (0 < l.begun → length l.self.outbox + 64 * l.begun ≤ 6144)
    × (l._line ≡ 0 → l.self ≡ l.initial.self)
    × (l._line ≡ 0 → l.begun ≡ 0)
    × (l.self.feed.lines.reads ≡ l.initial.self.feed.lines.reads)
    × (0 < l._line → length (unread l.self.feed.lines) < length (unread l.initial.self.feed.lines))
