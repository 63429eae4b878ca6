use Rattle.rx_proto.proofs.Printed.{reply_lines_tell}
use Rattle.rx_proto.proofs.laws.replies_tell.Goals as goal

pub returns : goal.returns
returns c = reply_lines_tell
