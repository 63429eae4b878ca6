-- The first mark parts the bytes.
use Rattle.std.proofs.Common.{◌∙◌, sym, ap}
use Rattle.rx_http.specs.Queries.{cut_at}
use Rattle.rx_http.proofs.Cuts.{cut_at-parted, cut_at-whole}
use Rattle.rx_http.proofs.parts.cut.Goals as goal

pub returns-in-Some : goal.returns-in-Some
returns-in-Some c =
    let parts = c.in-Some.ensures in
    sym (ap (cut_at c.args.mark) parts.parts ∙ cut_at-parted c.args.mark _ _ parts.none)

pub returns-in-None : goal.returns-in-None
returns-in-None c = sym (cut_at-whole c.args.mark c.args.bytes.now c.in-None.ensures)
