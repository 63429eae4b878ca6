use Rattle.rx_proto.proofs.Exact.{read-spelled}
use Rattle.rx_proto.proofs.parser.parse_line_without_lf.Goals as goal

pub command_of-requires : goal.command_of-requires
command_of-requires c = read-spelled c.args.line.now _ c.in-Ok.ensures
