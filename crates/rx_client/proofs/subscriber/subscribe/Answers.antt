use Rattle.std.proofs.Common.{◌∙◌, subst, sym, refl}
use Rattle.rx_client.proofs.Written.{breaks-none, breaks-on, goes-front, goes-none, goes-on}
use Rattle.rx_client.specs.Following.{new_follower}
use Rattle.rx_client.specs.Running.{StepsOn}
use Rattle.rx_client.specs.declared.follower.Follower.{Follower}
use Rattle.rx_client.proofs.subscriber.subscribe.Goals as goal
use Rattle.rx_client.proofs.subscriber.subscribe.Goals.{in-Ok-join+in-Ok-false, in-Err-None}

pub returns-in_default : goal.returns-in_default
returns-in_default g c = breaks-none c.args.wanted.format (new_follower c.args.wanted.from c.args.wanted.may_overflow) (g.W.Write.contents c.args.writer.now)

pub loop-init : goal.loop-init
loop-init g c =
    let start = new_follower c.args.wanted.from c.args.wanted.may_overflow in
    let known = g.W.Write.contents c.args.writer.now in
    (subst (λ (f : Follower). StepsOn c.args.wanted.format start f known known) (sym c.new.ensures) (goes-none c.args.wanted.format start known), refl)

pub returns-in-Ok-true : goal.returns-in-Ok-true
returns-in-Ok-true g c = (
  c.follow.new.self.follower,
  goes-on c.args.wanted.format c.loop.subscriber.format (new_follower c.args.wanted.from c.args.wanted.may_overflow) c.loop.subscriber.follower c.follow.new.self.follower
      (g.W.Write.contents c.args.writer.now) (g.W.Write.contents c.loop.writer) (g.W.Write.contents c.follow.new.writer) c.loop.invariant.0 c.loop.invariant.1
      c.in-Ok-true.ensures.follows,
)

pub returns-in-Err : goal.returns-in-Err
returns-in-Err g c =
    breaks-on c.args.wanted.format c.loop.subscriber.format (new_follower c.args.wanted.from c.args.wanted.may_overflow) c.loop.subscriber.follower
    (g.W.Write.contents c.args.writer.now) (g.W.Write.contents c.loop.writer) (g.W.Write.contents c.follow.new.writer) c.loop.invariant.0 c.loop.invariant.1 c.in-Err.ensures.follows

pub returns-in-Err-Some : goal.returns-in-Err-Some
returns-in-Err-Some g c =
    goes-front c.args.wanted.format (new_follower c.args.wanted.from c.args.wanted.may_overflow) c.loop.subscriber.follower (g.W.Write.contents c.args.writer.now)
    (g.W.Write.contents c.loop.writer) c.loop.invariant.0

pub loop-preserved : goal.loop-preserved
loop-preserved g c =
    elim c.match-join.branch [
      | in-Ok-join+in-Ok-false w ↦ rw (w.writer-is, w.subscriber-is) (
        goes-on c.args.wanted.format c.loop.subscriber.format (new_follower c.args.wanted.from c.args.wanted.may_overflow) c.loop.subscriber.follower w.follow.new.self.follower
            (g.W.Write.contents c.args.writer.now) (g.W.Write.contents c.loop.writer) (g.W.Write.contents w.follow.new.writer) c.loop.invariant.0 c.loop.invariant.1
            w.in-Ok-false.ensures.follows,
        w.follow.ensures.format ∙ c.loop.invariant.1,
      )
      | in-Err-None w ↦ rw (w.writer-is, w.subscriber-is) c.loop.invariant
    ]
