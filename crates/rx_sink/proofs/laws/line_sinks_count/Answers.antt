use Rattle.rx_sink.specs.Kinds.{line_acts}
use Rattle.rx_sink.proofs.Taking.{counts_notes}
use Rattle.rx_sink.proofs.laws.line_sinks_count.Goals as goal

pub returns : goal.returns
returns g c =
    counts_notes (line_acts g.W.Write.contents) (λ s. s.notes) (λ s. s.faults) (λ rest. rest.notes) (λ rest. rest.failed) (record {
      started = λ s who t is. (is.1, is.2);
      start_faulted = λ s who t is. (is.1, is.2);
      took = λ s note flow t is. (is.2, is.3);
      take_faulted = λ s note t is. (is.1, is.2);
      flushed = λ s flow t is. (is.2, is.3);
      flush_faulted = λ s t is. (is.1, is.2);
      finished = λ s rest is. (is.0, is.1);
    })
