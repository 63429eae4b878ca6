use Rattle.rx_client.proofs.Bytewise.{each-more}
use Rattle.rx_client.specs.Printed.{hexed}
use Rattle.rx_client.proofs.output.put_hex.Goals as goal

pub loop-byte-preserved : goal.loop-byte-preserved
loop-byte-preserved c =
    each-more hexed c.args.text.now c.put_word.new.block.items c.loop-byte.block.items c.put_digits.new.block.items c.loop-byte.byte-index c.loop-byte-test.true c.loop-byte.invariant
    c.in_ok-put_digits.ensures
