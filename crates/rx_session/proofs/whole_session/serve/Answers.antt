use Rattle.rx_session.specs.Sessions.{parties}
use Rattle.rx_session.proofs.SoFar.{SoFar-begun, SoFar-put, SoFar-turn, over-fault, over-turn, turn-goes_on, as_session}
use Rattle.rx_session.proofs.whole_session.serve.Goals as goal

pub loop-held-init : goal.loop-held-init
loop-held-init g c =
    let p = parties g.D.Desk.knows g.D.Desk.emits g.D.Desk.follows g.W.Write.contents in
    (SoFar-begun p c.args.desk.now c.args.writer (g.R.Read.remaining c.args.reader.now) c.new-outbox.result _ c.new-outbox.ensures c.requires.unread, c.requires.end)

pub returns-in-Err : goal.returns-in-Err
returns-in-Err g c =
    let p = parties g.D.Desk.knows g.D.Desk.emits g.D.Desk.follows g.W.Write.contents in
    as_session p (g.R.Read.remaining c.args.reader.now) (g.R.Read.remaining c.loop-held.reader) c.catch_up.new.lines.end c.args.desk.now c.args.writer _
    (over-fault p _ _ _ c.catch_up.new.lines.end c.loop-held.desk c.loop-held.held c.catch_up.new.writer c.loop-held.version c.loop-held.outbox c.catch_up.new.outbox _ c.loop-held.invariant.0 c.in-Err.ensures.puts)

pub loop-held-preserved : goal.loop-held-preserved
loop-held-preserved g c =
    let p = parties g.D.Desk.knows g.D.Desk.emits g.D.Desk.follows g.W.Write.contents in
    let caught = SoFar-put p _ _ _ c.loop-held.desk c.loop-held.held c.catch_up.new.writer c.loop-held.version c.loop-held.outbox c.catch_up.new.outbox _ _ c.loop-held.invariant.0 c.in-Ok.ensures.puts c.in-Ok.ensures.unread in (
      SoFar-turn p _ _ _ _ _ c.in-On.writer c.catch_up.new.lines c.turn.new.lines _ caught c.in-On.ensures,
      (turn-goes_on p _ _ _ _ _ c.catch_up.new.lines c.turn.new.lines c.in-On.ensures).no_end,
    )

pub returns-in-Over : goal.returns-in-Over
returns-in-Over g c =
    let p = parties g.D.Desk.knows g.D.Desk.emits g.D.Desk.follows g.W.Write.contents in
    let caught = SoFar-put p _ _ _ c.loop-held.desk c.loop-held.held c.catch_up.new.writer c.loop-held.version c.loop-held.outbox c.catch_up.new.outbox _ _ c.loop-held.invariant.0 c.in-Ok.ensures.puts c.in-Ok.ensures.unread in
    as_session p (g.R.Read.remaining c.args.reader.now) (g.R.Read.remaining c.turn.new.reader) c.turn.new.lines.end c.args.desk.now c.args.writer _
    (over-turn p _ _ _ _ _ _ c.in-Over.end c.in-Over.back c.catch_up.new.lines c.turn.new.lines caught c.in-Ok.ensures.empty c.in-Over.ensures)
