use Rattle.rx_proto.proofs.Complete.{text_read-long, text_read-text}
use Rattle.rx_proto.proofs.words.text_of.Goals as goal

pub returns-then-bytes-gt-MAX_TEXT : goal.returns-then-bytes-gt-MAX_TEXT
returns-then-bytes-gt-MAX_TEXT c = text_read-long c.args.bytes.now c.if-bytes-gt-MAX_TEXT.true c.requires

pub returns : goal.returns
returns c = text_read-text c.args.bytes.now (record { few = c.if-bytes-gt-MAX_TEXT.false; no_lf = c.requires })
