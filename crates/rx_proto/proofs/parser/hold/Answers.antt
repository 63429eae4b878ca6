use Rattle.rx_proto.proofs.Complete.{no_lf_test}
use Rattle.rx_proto.proofs.parser.hold.Goals as goal

pub of_line-requires-clause-no_lf : goal.of_line-requires-clause-no_lf
of_line-requires-clause-no_lf c = no_lf_test c.args.text.now c.requires.no_lf
