use Rattle.rx_proto.proofs.Exact.{script_read-spelled}
use Rattle.rx_proto.proofs.parser.parse_script.Goals as goal

pub script_line_of-requires : goal.script_line_of-requires
script_line_of-requires c = script_read-spelled c.args.line.now _ c.in-Ok.ensures
