use Rattle.rx_proto.proofs.NameTests.{name_read-name, name_read-other}
use Rattle.std.proofs.Common.{◌∙◌, sym}
use Rattle.std.proofs.lemmas.Bool.{false≢true}
use Rattle.rx_proto.proofs.words.name_of.Goals as goal

pub returns-then-is_name : goal.returns-then-is_name
returns-then-is_name c = name_read-name c.args.bytes.now (c.is_name.ensures.0 c.if-is_name.true)

pub returns-else-is_name : goal.returns-else-is_name
returns-else-is_name c = name_read-other c.args.bytes.now (λ is. false≢true (sym c.if-is_name.false ∙ c.is_name.ensures.1 is))
