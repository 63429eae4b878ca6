use Rattle.rx_proto.proofs.LineFeeds.{named-no_lf}
use Rattle.rx_proto.proofs.words.named_text.Goals as goal

pub text_of-requires : goal.text_of-requires
text_of-requires c = named-no_lf c.args.bytes.now _ _ c.in_ok-name.ensures c.requires
