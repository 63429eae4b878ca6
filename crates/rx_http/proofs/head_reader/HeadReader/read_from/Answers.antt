use Rattle.rx_http.proofs.HeadBlocks.{IsRead, is-read}
use Rattle.rx_http.proofs.head_reader.HeadReader.read_from.Given.{Over}
use Rattle.rx_http.proofs.head_reader.HeadReader.read_from.Goals as goal

-- what the read put behind the bytes that came, of which there were fewer than there is room for
put : (g : Over) (c : goal.After-self-1 g)
    → (let i = c.self.inside in IsRead c.read-result.result (g.R.Read.remaining c.args.reader.now) (g.R.Read.remaining c.read-result.new.self) i.block i.len i.searched c.args.self.now c.read-result.new.buf)
put g c =
    let i = c.self.inside in
    is-read c.read-result.result _ _ i.block c.read-result.new.buf c.args.self.now i.len i.searched c.self.invariant c.self.told c.self.view_is c.requires c.read-result.auto.buf c.read-result.ensures.bound c.read-result.ensures.bytes

pub invariant_of-self : goal.invariant_of-self
invariant_of-self g c = rw c.count_of.ensures (put g c).held

pub returns : goal.returns
returns g c = rw c.count_of.ensures (put g c).gathers
