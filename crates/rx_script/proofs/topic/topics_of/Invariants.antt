use Rattle.rx_script.specs.Scripts.{StandForSubjects, new_subjects}
use Rattle.rx_script.proofs.topic.topics_of.Given as goal

abbrev pub invariant-loop-subject : goal.invariant-loop-subject
invariant-loop-subject l = StandForSubjects l.topics.items (new_subjects l.yielded)
