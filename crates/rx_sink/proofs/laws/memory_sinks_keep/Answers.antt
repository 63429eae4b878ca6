use Rattle.std.proofs.Common.{ap}
use Rattle.rx_sink.specs.declared.memory_sink.MemorySink.{MemorySink}
use Rattle.rx_sink.specs.Kinds.{memory_acts}
use Rattle.rx_sink.proofs.Taking.{keeps_notes}
use Rattle.rx_sink.proofs.laws.memory_sinks_keep.Goals as goal

pub returns : goal.returns
returns c =
    keeps_notes memory_acts (λ s. s.notes.items) (λ rest. rest.items) (record {
      started = λ s who t is. ap (λ (u : MemorySink). u.notes.items) is;
      start_faulted = λ s who t is. absurd is;
      took = λ s note flow t is. is.1;
      take_faulted = λ s note t is. is.0;
      flushed = λ s flow t is. ap (λ (u : MemorySink). u.notes.items) is.1;
      flush_faulted = λ s t is. absurd is;
      finished = λ s rest is. is;
    })
