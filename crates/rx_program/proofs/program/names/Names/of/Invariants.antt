use Rattle.std.proofs.Common.{◌≡◌, map, take}
use Rattle.rx_config.specs.Configurations.{Subject, subject_of_config}
use Rattle.rx_program.proofs.program.names.Names.of.Given as goal

-- the names so far
abbrev pub invariant-loop-subject : goal.invariant-loop-subject
invariant-loop-subject l = l.names.items ≡ map (λ (s : Subject). s.name) (map subject_of_config (take l.subject-index l.config.subjects.items))
