use Rattle.std.proofs.Common.{◌≡◌, ◌++◌, take}
use Rattle.std.specs.List.{flat_map}
use Rattle.rx_config.specs.Configurations.{subject_of_config}
use Rattle.rx_config.specs.Listings.{subject_line}
use Rattle.rx_config.proofs.listing.lines.put_subjects.Given as goal

abbrev pub invariant-loop-subject : goal.invariant-loop-subject
invariant-loop-subject l =
    l.lines.items ≡ l.initial.lines.items ++ flat_map (λ subject. subject_line (subject_of_config subject)) (take l.subject-index l.subjects)
