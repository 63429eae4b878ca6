-- As far as the loop has come the session is under way, but for what is begun, and each line leaves it so or ends it.
use Rattle.std.proofs.Common.{◌≡◌, ◌∙◌, ◌<◌, ℕ, refl, ap, inl, inr, length, arith}
use Rattle.std.proofs.lemmas.Bool.{cases_lt}
use Rattle.rx_lines.specs.declared.feed.Feed.{Feed}
use Rattle.rx_session.specs.declared.open_session.OpenSession.{OpenSession}
use Rattle.rx_session.specs.Sessions.{parties}
use Rattle.rx_lines.specs.Steps.{unread}
use Rattle.rx_session.specs.Turns.{hands}
use Rattle.rx_session.specs.declared.whole_session.Turned.TheVariants.{On, Over}
use Rattle.rx_session.proofs.Gathering.{Gathering-begun, Gathering-kept, carry_behind, gathers}
use Rattle.rx_session.proofs.open_session.OpenSession.carry_lines.Goals as goal

-- how much is unread
abbrev unread_of : Feed → ℕ
unread_of feed = length (unread feed.lines)

-- once a line was carried out less is unread than at first
taken_some : (line : ℕ) (start at : OpenSession) → (0 < line → unread_of at.feed < unread_of start.feed) → (line ≡ 0 → ⊥) → unread_of at.feed < unread_of start.feed
taken_some line start at more none =
    elim (cases_lt 0 line) [
      | inl some ↦ more some
      | inr first ↦ absurd (none (omega (arith, first)))
    ]

-- and so it is once one more was
taken_more : (line : ℕ) (start at : OpenSession) (known : Feed) (after : OpenSession) → (line ≡ 0 → at ≡ start) → (0 < line → unread_of at.feed < unread_of start.feed)
    → unread_of known < unread_of at.feed → after.feed ≡ known → unread_of after.feed < unread_of start.feed
taken_more line start at known after same more took feed =
    let is : unread_of after.feed ≡ unread_of known = ap unread_of feed in
    elim (cases_lt 0 line) [
      | inl some ↦ (let fewer = more some in omega (arith, is, took, fewer))
      | inr first ↦ (let begun : unread_of at.feed ≡ unread_of start.feed = ap (λ (o : OpenSession). unread_of o.feed) (same (omega (arith, first))) in omega (arith, is, took, begun))
    ]

pub loop-line-init : goal.loop-line-init
loop-line-init g c = (
  λ start first read_old read_now s.
      Gathering-begun (parties g.D.Desk.knows g.D.Desk.emits g.D.Desk.follows g.W.Write.contents) g.D.Desk.waits start first read_old read_now c.args.desk.now c.args.writer c.args.self.now c.args.begun.now c.requires s,
  λ some. absurd (omega (arith, c.requires, some)),
  λ first. refl,
  λ first. c.requires,
  refl,
  λ some. absurd (omega (arith, some)),
)

pub returns-in_default-clause-gathered : goal.returns-in_default-clause-gathered
returns-in_default-clause-gathered g c start first read_old read_now s =
    let p = parties g.D.Desk.knows g.D.Desk.emits g.D.Desk.follows g.W.Write.contents in
    Gathering-kept p g.D.Desk.waits start first read_old read_now c.loop-line.desk c.loop-line.held c.loop-line.self c.known.new.self c.loop-line.begun (c.must_write.ensures.quits c.if-must_write.false) (c.loop-line.invariant.0 start first read_old read_now s)
    (λ rest is. (c.in_default.ensures.tells rest is).1)

pub returns-in-Over-clause-gathered : goal.returns-in-Over-clause-gathered
returns-in-Over-clause-gathered g c start first read_old read_now s =
    let p = parties g.D.Desk.knows g.D.Desk.emits g.D.Desk.follows g.W.Write.contents in
    let now = hands c.loop-line.desk c.loop-line.held c.loop-line.self.version c.loop-line.self.outbox in
    let begun = gathers p g.D.Desk.waits start first read_old read_now now c.loop-line.self.quits c.loop-line.self.feed.skips (unread c.loop-line.self.feed.lines) c.loop-line.begun (c.must_write.ensures.quits c.if-must_write.false) (c.loop-line.invariant.0 start first read_old read_now s) in
    carry_behind p g.D.Desk.waits start first read_old read_now now c.in-Some.step c.known.new.self.lines.window c.loop-line.self.feed.skips (unread c.loop-line.self.feed.lines) c.known.new.self (Over c.in-Over.end c.in-Over.back) c.carry.new.desk c.carry.new.self c.loop-line.begun c.carry.new.begun
    begun c.in-Some.ensures.tells c.carry.ensures.feed c.in-Over.ensures.carries

pub loop-line-preserved : goal.loop-line-preserved
loop-line-preserved g c = (
  λ start first read_old read_now s.
      let p = parties g.D.Desk.knows g.D.Desk.emits g.D.Desk.follows g.W.Write.contents in
      let now = hands c.loop-line.desk c.loop-line.held c.loop-line.self.version c.loop-line.self.outbox in
      let begun = gathers p g.D.Desk.waits start first read_old read_now now c.loop-line.self.quits c.loop-line.self.feed.skips (unread c.loop-line.self.feed.lines) c.loop-line.begun (c.must_write.ensures.quits c.if-must_write.false) (c.loop-line.invariant.0 start first read_old read_now s) in
      carry_behind p g.D.Desk.waits start first read_old read_now now c.in-Some.step c.known.new.self.lines.window c.loop-line.self.feed.skips (unread c.loop-line.self.feed.lines) c.known.new.self (On c.in-On.writer) c.carry.new.desk c.carry.new.self c.loop-line.begun c.carry.new.begun
      begun c.in-Some.ensures.tells c.carry.ensures.feed c.in-On.ensures.carries,
  c.carry.ensures.room,
  λ first. absurd (omega (arith, first)),
  λ first. absurd (omega (arith, first)),
  ap (λ (f : Feed). f.lines.reads) c.carry.ensures.feed ∙ c.known.ensures.reads ∙ c.loop-line.invariant.4,
  λ some. taken_more c.loop-line._line c.args.self.now c.loop-line.self c.known.new.self c.carry.new.self c.loop-line.invariant.2 c.loop-line.invariant.5 c.in-Some.ensures.took c.carry.ensures.feed,
)
