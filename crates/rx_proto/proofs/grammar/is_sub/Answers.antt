-- A line that subscribes is known as one.
use Rattle.std.proofs.Common.{rules}
use Rattle.rx_proto.proofs.grammar.is_sub.Goals as goal

pub returns-in-Sub : goal.returns-in-Sub
returns-in-Sub c = search rules
