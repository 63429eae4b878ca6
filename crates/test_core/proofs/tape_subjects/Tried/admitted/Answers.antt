use Rattle.std.proofs.Common.{arith}
use Rattle.std.proofs.lemmas.Grind.{common_steps}
use Rattle.test_core.proofs.Places.{has_place}
use Rattle.test_core.proofs.tape_subjects.Tried.admitted.Goals as goal

pub admit-requires-clause-place : goal.admit-requires-clause-place
admit-requires-clause-place c = has_place _ _ (grind (arith, common_steps))
