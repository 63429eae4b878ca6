use Rattle.std.proofs.Common.{◌≡◌, drop, option_map}
use Rattle.std.specs.List.{list_any}
use Rattle.rx_config.specs.Configurations.{is_among}
use Rattle.rx_config.specs.KeyTables.{is_named, names_of}
use Rattle.rx_config.proofs.keys.section.is_among.Given as goal

abbrev pub invariant-loop-key : goal.invariant-loop-key
invariant-loop-key l =
    let kind = option_map (λ word. word.now) l.kind in
    is_among l.name (names_of kind l.keys) ≡ list_any (λ key. is_named l.name kind key) (drop l.key-index l.keys)
