use Rattle.std.proofs.Common.{ℕ, sym, subst, None}
use Rattle.rx_pump.specs.declared.out.Out.{Out}
use Rattle.rx_sink.specs.Attachments.{detaching, giving}
use Rattle.rx_sink.specs.KeptSinks.{Tends, events_asked, sinks}
use Rattle.rx_drain.specs.Logs.{service_of}
use Rattle.rx_drain.proofs.drainer.outs.serve_out.Goals as goal

pub returns-in-Attach-clause-serves : goal.returns-in-Attach-clause-serves
returns-in-Attach-clause-serves g c =
    let (unserved, serves) = c.serve_sink.ensures.serves in (
      unserved,
      λ place.
          subst (λ (out : Out _). Tends g.S.Sink.acts (service_of place c.args.subject out)
          (sinks c.args.kept.now.items c.args.away.now.items c.args.places.now.misses c.args.taken.now) (sinks c.serve_sink.new.kept.items c.serve_sink.new.away.items c.serve_sink.new.places.misses c.args.taken.now) (events_asked c.serve_sink.result) unserved)
          (sym c.in-Attach.is) (serves place c.args.taken.now),
    )

pub returns-in-Give-clause-serves : goal.returns-in-Give-clause-serves
returns-in-Give-clause-serves g c = (
  None,
  λ place.
      subst (λ (out : Out _). Tends g.S.Sink.acts (service_of place c.args.subject out)
      (sinks c.args.kept.now.items c.args.away.now.items c.args.places.now.misses c.args.taken.now) (sinks c.give.new.kept.items c.give.new.away.items c.give.new.places.misses c.give.new.taken) (events_asked c.give.result) None)
      (sym c.in-Give.is) (subst (λ (misses : ℕ). Tends g.S.Sink.acts (giving c.args.subject c.in-Give.who c.in-Give.note)
      (sinks c.args.kept.now.items c.args.away.now.items c.args.places.now.misses c.args.taken.now) (sinks c.give.new.kept.items c.give.new.away.items misses c.give.new.taken) (events_asked c.give.result) None)
      (sym c.give.ensures.misses) (c.give.ensures.gives c.args.places.now.misses)),
)

pub returns-in-Detach-clause-serves : goal.returns-in-Detach-clause-serves
returns-in-Detach-clause-serves g c = (
  None,
  λ place.
      subst (λ (out : Out _). Tends g.S.Sink.acts (service_of place c.args.subject out)
      (sinks c.args.kept.now.items c.args.away.now.items c.args.places.now.misses c.args.taken.now) (sinks c.detach.new.kept.items c.detach.new.away.items c.detach.new.places.misses c.args.taken.now) (events_asked c.detach.result) None)
      (sym c.in-Detach.is) (subst (λ (misses : ℕ). Tends g.S.Sink.acts (detaching c.args.subject c.in-Detach.who)
      (sinks c.args.kept.now.items c.args.away.now.items c.args.places.now.misses c.args.taken.now) (sinks c.detach.new.kept.items c.detach.new.away.items misses c.args.taken.now) (events_asked c.detach.result) None)
      (sym c.detach.ensures.misses) (c.detach.ensures.detaches c.args.places.now.misses c.args.taken.now)),
)
