-- A byte of a name is a small letter, a digit or a hyphen.
use Rattle.std.proofs.Common.{rules}
use Rattle.rx_proto.proofs.name.is_name_byte.Goals as goal

pub returns-then-is_ascii_digit : goal.returns-then-is_ascii_digit
returns-then-is_ascii_digit c = search rules
