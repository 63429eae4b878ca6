use Rattle.std.proofs.Common.{sym, option_map}
use Rattle.rx_config.proofs.KeyNames.{any-named}
use Rattle.rx_config.proofs.keys.section.is_among.Goals as goal

pub loop-key-init : goal.loop-key-init
loop-key-init c = sym (any-named c.args.name.now (option_map (λ word. word.now) c.args.kind) c.args.keys.now)
