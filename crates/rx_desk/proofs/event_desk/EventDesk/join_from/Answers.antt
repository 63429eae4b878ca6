-- The subject is asked for an observer, with a sink over the writer; or there was no memory for its place, and the sink gave the writer
-- back.
use Rattle.std.proofs.Common.{◌≡◌, ◌∙◌, ap, inl, inr}
use Rattle.rx_events.specs.declared.event_sink.EventSink.{EventSink}
use Rattle.rx_exchange.specs.declared.joining.Joining.TheVariants.{Back}
use Rattle.rx_http.specs.declared.answer.refusal.Refusal.TheVariants.{Memory}
use Rattle.rx_desk.specs.ClientSinks.{IsEvents, writer_of}
use Rattle.rx_desk.specs.declared.client_sink.ClientSink.{ClientSink}
use Rattle.rx_desk.specs.declared.client_sink.ClientSink.TheVariants.{Lines, Events}
use Rattle.rx_desk.proofs.event_desk.EventDesk.join_from.Goals as goal

-- whose writer it is
its-writer : {W : Type 0} (told : EventSink W) (sink : ClientSink W) → IsEvents told sink → writer_of sink ≡ told.writer
its-writer told (Lines sink) is = absurd is
its-writer told (Events sink) is = ap (λ (s : EventSink _). s.writer) is

pub returns-in-Ok : goal.returns-in-Ok
returns-in-Ok g c =
    let sink = rw (c.sink_over-sink.ensures, c.strategy.ensures.strategy) at c.in-Ok.ensures in
    let asked = rw (← c.self.view_is) at c.ask.ensures in
    rw (← c.self.view_is) (elim asked [
      | inl refused ↦ inl (refused.0 ∙ ap (λ w. Back Memory w) (its-writer _ c.in-Ok.sink sink), refused.1)
      | inr asks ↦ inr (c.in-Ok.sink, sink, asks)
    ])
