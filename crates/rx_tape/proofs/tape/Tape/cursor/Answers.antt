-- Where a cursor stands follows from what `add` ensures of the places.
use Rattle.std.proofs.Common.{rules}
use Rattle.rx_tape.proofs.tape.Tape.cursor.Goals as goal

pub returns-clause-moves : goal.returns-clause-moves
returns-clause-moves c = search rules
