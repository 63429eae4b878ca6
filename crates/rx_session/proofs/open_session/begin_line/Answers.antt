-- The item is begun behind those that are left, or nothing is.
use Rattle.std.proofs.Common.{◌+◌, true, false, List, length, ap, arith}
use Rattle.rx_session.specs.Begun.{Asked}
use Rattle.rx_session.specs.Sessions.{parties}
use Rattle.rx_session.specs.Turns.{asked_by}
use Rattle.rx_session.proofs.Gathering.{Begins-behind}
use Rattle.rx_session.proofs.open_session.begin_line.Goals as goal

pub returns-then-not-begins-clause-begins : goal.returns-then-not-begins-clause-begins
returns-then-not-begins-clause-begins g c at notes writer version count stands =
    let p = parties g.D.Desk.knows g.D.Desk.emits g.D.Desk.follows g.W.Write.contents in
    Begins-behind p g.D.Desk.waits false (asked_by c.args.read.now) at notes c.make_way.new.desk c.begins.new.desk writer version c.make_way.new.outbox c.make_way.new.begun c.make_way.new.begun
    (c.make_way.ensures.answered at notes writer version count stands) (rw c.if-not-begins.true at c.begins.ensures) (λ new none. omega (arith, ap (λ (l : List Asked). length l) none))

pub returns-clause-begins : goal.returns-clause-begins
returns-clause-begins g c at notes writer version count stands =
    let p = parties g.D.Desk.knows g.D.Desk.emits g.D.Desk.follows g.W.Write.contents in
    Begins-behind p g.D.Desk.waits true (asked_by c.args.read.now) at notes c.make_way.new.desk c.begins.new.desk writer version c.make_way.new.outbox c.make_way.new.begun (c.make_way.new.begun + 1)
    (c.make_way.ensures.answered at notes writer version count stands) c.if-not-begins.ensures (λ new one. omega (arith, ap (λ (l : List Asked). length l) one.1))
