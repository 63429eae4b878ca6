use Rattle.rx_proto.proofs.Printed.{placed_note_lines_tell}
use Rattle.rx_proto.proofs.laws.placed_notes_tell.Goals as goal

pub returns : goal.returns
returns c = placed_note_lines_tell
