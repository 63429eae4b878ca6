use Rattle.std.proofs.Common.{◌≡◌, map, drop}
use Rattle.rx_config.specs.Configurations.{has_name, subject_of_config}
use Rattle.rx_config.proofs.reader.subject_list.has_name.Given as goal

abbrev pub invariant-loop-subject : goal.invariant-loop-subject
invariant-loop-subject l = has_name l.name (map subject_of_config l.subjects.items) ≡ has_name l.name (map subject_of_config (drop l.subject-index l.subject-items))
