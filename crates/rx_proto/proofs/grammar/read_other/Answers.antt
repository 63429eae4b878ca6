use Rattle.rx_proto.proofs.LineFeeds.{cut-no_lf}
use Rattle.rx_proto.proofs.grammar.read_other.Goals as goal

pub read_words-requires : goal.read_words-requires
read_words-requires c = cut-no_lf c.args.line.now _ _ c.in_ok-command.ensures c.requires.no_lf
