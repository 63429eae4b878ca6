use Rattle.rx_client.proofs.Bytewise.{each-more}
use Rattle.rx_client.specs.Printed.{quoted}
use Rattle.rx_client.proofs.output.put_quoted.Goals as goal

pub loop-byte-preserved : goal.loop-byte-preserved
loop-byte-preserved c =
    each-more quoted c.args.text.now c.put_word.new.block.items c.loop-byte.block.items c.put_escaped.new.block.items c.loop-byte.byte-index c.loop-byte-test.true c.loop-byte.invariant
    c.in_ok-put_escaped.ensures
