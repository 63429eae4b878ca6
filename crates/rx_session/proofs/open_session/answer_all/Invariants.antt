use Rattle.std.proofs.Common.{◌≡◌, ◌+◌, ◌*◌, ◌≤◌, List, length}
use Rattle.rx_proto.specs.declared.version.Version.{Version}
use Rattle.rx_session.specs.Begun.{Asked}
use Rattle.rx_session.specs.Gathering.{EmitsEach, StandsBehind}
use Rattle.rx_session.specs.Sessions.{Place, parties}
use Rattle.rx_session.specs.Turns.{hands}
use Rattle.rx_session.proofs.open_session.answer_all.Given as goal

abbrev pub invariant-loop-begun : goal.invariant-loop-begun
invariant-loop-begun g l =
    ((at : Place g.row.D.Denot g.row.W.Denot) (notes : List Asked) (writer : g.row.W.Denot) (version : Version)
    → length notes ≡ l.initial.begun → StandsBehind (parties g.D.Desk.knows g.D.Desk.emits g.D.Desk.follows g.W.Write.contents) g.D.Desk.waits at notes (hands l.initial.desk writer version l.initial.outbox)
    → (now : Place g.row.D.Denot g.row.W.Denot) × (left : List Asked) × (length left ≡ l.begun)
    × StandsBehind (parties g.D.Desk.knows g.D.Desk.emits g.D.Desk.follows g.W.Write.contents) g.D.Desk.waits now left (hands l.desk writer version l.outbox)
    × ((last : Place g.row.D.Denot g.row.W.Denot) → EmitsEach (parties g.D.Desk.knows g.D.Desk.emits g.D.Desk.follows g.W.Write.contents) now left last
    → EmitsEach (parties g.D.Desk.knows g.D.Desk.emits g.D.Desk.follows g.W.Write.contents) at notes last))
    × (length l.outbox + 64 * l.begun ≤ length l.initial.outbox + 64 * l.initial.begun)
    × (l.begun ≤ l.initial.begun)
    × (l.initial.begun ≡ 0 → (l.desk ≡ l.initial.desk) × (l.outbox ≡ l.initial.outbox))

abbrev pub decreases-loop-begun : goal.decreases-loop-begun
decreases-loop-begun g l = l.begun
