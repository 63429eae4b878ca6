-- Each round has the response to one note told, behind those before it.
use Rattle.std.proofs.Common.{arith, refl}
use Rattle.rx_session.specs.Sessions.{parties}
use Rattle.rx_session.specs.Turns.{hands}
use Rattle.rx_session.proofs.Gathering.{answered_next, none_left}
use Rattle.rx_session.proofs.open_session.answer_all.Goals as goal

pub loop-begun-init : goal.loop-begun-init
loop-begun-init g c = (
  λ at notes writer version count stands. (at, notes, count, stands, λ last emitted. emitted),
  omega arith,
  omega arith,
  λ none. (refl, refl),
)

pub loop-begun-preserved : goal.loop-begun-preserved
loop-begun-preserved g c =
    let p = parties g.D.Desk.knows g.D.Desk.emits g.D.Desk.follows g.W.Write.contents in
    let i = c.loop-begun.invariant in (
      λ at notes writer version count stands.
          let before = i.0 at notes writer version count stands in
          answered_next p g.D.Desk.waits at notes before.0 before.1 c.loop-begun.desk c.answer-response.new.self writer version c.loop-begun.outbox c.push_reply.new.self c.loop-begun.begun c.answer-response.result
          before.2 c.loop-begun-test.true before.3 before.4 c.answer-response.ensures c.push_reply.ensures.line,
      omega (arith, i.1, c.push_reply.ensures.short, c.loop-begun-test.true),
      omega (arith, i.2),
      λ none. absurd (omega (arith, none, i.2, c.loop-begun-test.true)),
    )

pub returns-clause-answered : goal.returns-clause-answered
returns-clause-answered g c at notes writer version count stands =
    let p = parties g.D.Desk.knows g.D.Desk.emits g.D.Desk.follows g.W.Write.contents in
    let end = c.loop-begun.invariant.0 at notes writer version count stands in
    none_left p g.D.Desk.waits at notes end.0 end.1 (hands c.loop-begun.desk writer version c.loop-begun.outbox) c.loop-begun.begun end.2 c.loop-begun-test.false end.3 end.4
