use Rattle.rx_http.specs.Heads.{NoneBelow}
use Rattle.rx_http.proofs.head_reader.head_len.Given as goal

abbrev pub invariant-loop-len : goal.invariant-loop-len
invariant-loop-len l = NoneBelow l.len l.bytes
