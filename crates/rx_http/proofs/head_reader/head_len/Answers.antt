use Rattle.std.proofs.Common.{below_more, sym, ◌≡◌, false, take}
use Rattle.rx_http.specs.Heads.{ends_empty}
use Rattle.rx_http.proofs.head_reader.head_len.Goals as goal

pub loop-len-preserved : goal.loop-len-preserved
loop-len-preserved c =
    below_more (λ k. ends_empty (take k c.args.bytes.now) ≡ false) _ c.loop-len.invariant (sym c.if-ends_empty.ensures)
