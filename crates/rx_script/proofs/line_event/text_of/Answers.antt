use Rattle.rx_proto.proofs.Complete.{no_lf_test}
use Rattle.rx_script.proofs.line_event.text_of.Goals as goal

pub of_line-requires-clause-no_lf : goal.of_line-requires-clause-no_lf
of_line-requires-clause-no_lf c = no_lf_test c.args.bytes.now c.requires.no_lf

pub refill-requires-clause-no_lf : goal.refill-requires-clause-no_lf
refill-requires-clause-no_lf c = no_lf_test c.args.bytes.now c.requires.no_lf
