use Rattle.std.proofs.Common.{◌≡◌, option_map}
use Rattle.rx_config.specs.Configurations.{has_only}
use Rattle.rx_config.specs.KeyTables.{names_of}
use Rattle.rx_config.proofs.KeyNames.{all_among}
use Rattle.toml.specs.View.{table_view}
use Rattle.rx_config.proofs.keys.section.has_only.Given as goal

abbrev pub invariant-loop-name : goal.invariant-loop-name
invariant-loop-name l =
    let names = names_of (option_map (λ word. word.now) l.kind) l.keys in
    (goal.iterator-loop-name).can_next l.name-iterator ×
    (goal.iterator-loop-name).is_finite l.name-iterator ×
    (all_among names l.name-iterator ≡ has_only names (table_view l.table))
