-- The line of a note is its word, a space where something follows, what it carries, and an LF.
use Rattle.std.proofs.Common.{rules}
use Rattle.rx_proto.proofs.printer.put_note.Goals as goal

pub returns : goal.returns
returns c = search rules
