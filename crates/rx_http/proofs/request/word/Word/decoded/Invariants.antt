use Rattle.std.proofs.Common.{◌≡◌, ◌≤◌, ◌++◌, length, take}
use Rattle.percent_encoding.specs.Iter.{decoded_bytes}
use Rattle.percent_encoding.specs.Percent.{percent_decode}
use Rattle.rx_http.proofs.request.word.Word.decoded.Given as goal

abbrev pub invariant-loop-byte : goal.invariant-loop-byte
invariant-loop-byte l = record {
  can : (goal.iterator-loop-byte).can_next l.byte-iterator;
  finite : (goal.iterator-loop-byte).is_finite l.byte-iterator;
  within : l.len ≤ 64;
  long : length l.bytes ≡ 64;
  parts : take l.len l.bytes ++ decoded_bytes l.byte-iterator ≡ percent_decode l.value;
}
