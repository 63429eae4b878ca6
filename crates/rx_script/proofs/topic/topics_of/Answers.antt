use Rattle.std.proofs.Common.{subst, sym, ◌++◌, ◌∷◌, [], List}
use Rattle.std.proofs.lemmas.List.{map-append}
use Rattle.rx_script.specs.declared.topic.Topic.{Topic}
use Rattle.rx_script.specs.Scripts.{StandForSubjects, new_subject, new_subjects}
use Rattle.rx_script.specs.Transcripts.{Subject}
use Rattle.rx_script.proofs.Subjects.{StandForSubjects-push}
use Rattle.rx_script.proofs.topic.topics_of.Goals as goal

pub loop-subject-preserved : goal.loop-subject-preserved
loop-subject-preserved c =
    subst (λ (ss : List Subject). StandForSubjects c.push.new.self.items ss) (sym (map-append new_subject c.loop-subject.yielded (c.in-Some.subject ∷ [])))
    (subst (λ (ts : List Topic). StandForSubjects ts (new_subjects c.loop-subject.yielded ++ new_subject c.in-Some.subject ∷ [])) (sym c.in_ok-push.ensures.items)
    (StandForSubjects-push _ _ _ _ c.loop-subject.invariant c.in_ok-new.ensures))
