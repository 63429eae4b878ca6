use Rattle.rx_sink.specs.Kinds.{line_acts}
use Rattle.rx_sink.proofs.Taking.{writes_lines}
use Rattle.rx_sink.proofs.laws.line_sinks_write.Goals as goal

pub returns : goal.returns
returns g c =
    writes_lines (line_acts g.W.Write.contents) (λ s. s.version) (λ s. g.W.Write.contents s.writer) (record {
      started = λ s who t is. (is.0, is.4);
      start_faulted = λ s who t is. is.0;
      took = λ s note flow t is. (is.1, is.5);
      take_faulted = λ s note t is. is.0;
      flushed = λ s flow t is. (is.1, is.5);
      flush_faulted = λ s t is. is.0;
    })
