use Rattle.rx_proto.proofs.Printed.{note_lines_tell}
use Rattle.rx_proto.proofs.laws.notes_tell.Goals as goal

pub returns : goal.returns
returns c = note_lines_tell
