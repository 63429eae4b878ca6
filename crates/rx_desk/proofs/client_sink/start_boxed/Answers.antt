-- What is in the box was started.
use Rattle.std.proofs.Common.{subst}
use Rattle.std.specs.Prelude.{OnOk}
use Rattle.rx_events.specs.Sinks.{event_acts}
use Rattle.rx_events.specs.declared.event_sink.EventSink.{EventSink}
use Rattle.rx_desk.proofs.client_sink.start_boxed.Goals as goal

pub returns-clause-ok : goal.returns-clause-ok
returns-clause-ok g c =
    subst (λ (s : EventSink _). OnOk c.start.result ((event_acts g.W.Write.contents).started s c.args.who c.start.new.self)) c.deref_mut.ensures.value c.start.ensures.ok
