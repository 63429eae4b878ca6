use Rattle.rx_sink.proofs.Taking.{counts_notes}
use Rattle.rx_events.specs.Sinks.{event_acts}
use Rattle.rx_events.proofs.laws.event_sinks_count.Goals as goal

pub returns : goal.returns
returns g c =
    counts_notes (event_acts g.W.Write.contents) (λ s. s.notes) (λ s. s.faults) (λ rest. rest.notes) (λ rest. rest.failed) (record {
      started = λ s who t is. (is.3, is.4);
      start_faulted = λ s who t is. (is.1, is.2);
      took = λ s note flow t is. (is.4, is.5);
      take_faulted = λ s note t is. (is.1, is.2);
      flushed = λ s flow t is. (is.4, is.5);
      flush_faulted = λ s t is. (is.1, is.2);
      finished = λ s rest is. (is.0, is.1);
    })
