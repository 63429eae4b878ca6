use Rattle.std.proofs.Common.{◌≡◌, [], length, map, drop}
use Rattle.rx_config.specs.Configurations.{subject_of_config, subjects_from}
use Rattle.toml.specs.View.{array_view, items_view}
use Rattle.rx_config.proofs.reader.subject_list.put_subjects.Given as goal

abbrev pub invariant-loop-entry : goal.invariant-loop-entry
invariant-loop-entry l =
    (subjects_from [] (array_view l.entries) ≡ subjects_from (map subject_of_config l.subjects.items) (items_view (drop l.entry-index l.entry-items)))
    × (length l.subjects.items ≡ l.entry-index)
