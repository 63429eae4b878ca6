use Rattle.std.proofs.Common.{arith, inr}
use Rattle.std.proofs.lemmas.Bool.Decides.{nat_tests}
use Rattle.rx_config.proofs.Parts.{entries_read-few, entries_read-many}
use Rattle.rx_config.proofs.reader.subject_list.entries_read.Goals as goal

pub returns-then-len-gt-MAX_SUBJECTS-clause-refused :
    goal.returns-then-len-gt-MAX_SUBJECTS-clause-refused
returns-then-len-gt-MAX_SUBJECTS-clause-refused c = inr (entries_read-many c.args.entries.now.items (omega arith))

pub returns-clause-ok : goal.returns-clause-ok
returns-clause-ok c = rw (entries_read-few c.args.entries.now.items (grind (arith, nat_tests, c.is_empty.ensures, c.if-is_empty.false)) (omega arith)) c.all_subjects.ensures.ok

pub returns-clause-refused : goal.returns-clause-refused
returns-clause-refused c = rw (entries_read-few c.args.entries.now.items (grind (arith, nat_tests, c.is_empty.ensures, c.if-is_empty.false)) (omega arith)) c.all_subjects.ensures.refused
