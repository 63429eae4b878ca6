-- A call behind one that wrote all.
use Rattle.std.proofs.Common.{ℕ, List, Option, Result, Ok, Err}
use Rattle.std.proofs.KnownBytes.{Appends-kept}
use Rattle.std.specs.Io.KnownBytes.{Appends, Keeps}
use Rattle.rx_proto.specs.Bytes.{Writes}
use Rattle.rx_lines.proofs.Written.{Prefix-kept}

-- a call before which all was written, and by which the writer kept it
pub Writes-kept : {T E : Type 0} (result : Result T E) (old mid new : Option (List ℕ)) (bytes : List ℕ) → Appends old mid bytes → Keeps mid new → Writes result old new bytes
Writes-kept (Ok x) old mid new bytes told kept = Appends-kept old mid new bytes told kept
Writes-kept (Err e) old mid new bytes told kept = Prefix-kept old mid new bytes told kept
