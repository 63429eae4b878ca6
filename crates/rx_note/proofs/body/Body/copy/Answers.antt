-- A copy of a short text has its length and its bytes.
use Rattle.std.proofs.Common.{sym, ap}
use Rattle.rx_note.specs.Bodies.{bytes_of}
use Rattle.rx_note.proofs.body.Body.copy.Goals as goal

pub returns-in-Short-clause-bytes : goal.returns-in-Short-clause-bytes
returns-in-Short-clause-bytes c = ap bytes_of (sym c.in-Short.is)
