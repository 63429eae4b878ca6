use Rattle.rx_config.proofs.Parts.{name_in-exact}
use Rattle.rx_config.proofs.reader.texts.name_in.Goals as goal

pub returns : goal.returns
returns c = name_in-exact c.new.result c.args.bytes.now c.new.ensures
