use Rattle.rx_sink.proofs.laws.memory_sinks_never_wait.Goals as goal

pub returns : goal.returns
returns c = record { took = λ s note flow t is. is.0; flushed = λ s flow t is. is.0 }
