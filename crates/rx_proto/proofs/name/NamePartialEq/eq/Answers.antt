-- Two names are equal where their bytes are.
use Rattle.std.proofs.Common.{rules}
use Rattle.rx_proto.proofs.name.NamePartialEq.eq.Goals as goal

pub returns : goal.returns
returns c = search rules
