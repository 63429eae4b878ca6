use Rattle.std.proofs.Common.{◌≡◌, [], None}
use Rattle.rx_proto.specs.declared.version.Version.TheVariants.{One}
use Rattle.rx_lines.specs.Reads.{ahead}
use Rattle.rx_session.specs.Sessions.{parties}
use Rattle.rx_lines.specs.Steps.{unread}
use Rattle.rx_session.specs.Turns.{hands}
use Rattle.rx_session.proofs.SoFar.{SoFar}
use Rattle.rx_session.proofs.whole_session.serve.Given as goal

abbrev pub invariant-loop-held : goal.invariant-loop-held
invariant-loop-held g l =
    SoFar (parties g.D.Desk.knows g.D.Desk.emits g.D.Desk.follows g.W.Write.contents) (record { desk = l.initial.desk; writer = l.initial.held; version = One; told = [] })
    (g.R.Read.remaining l.initial.reader) (g.R.Read.remaining l.reader) (hands l.desk l.held l.version l.outbox) (unread l.lines)
    × (l.lines.end ≡ None)

abbrev pub decreases-loop-held : goal.decreases-loop-held
decreases-loop-held g l = ahead l.lines.reads (unread l.lines)
