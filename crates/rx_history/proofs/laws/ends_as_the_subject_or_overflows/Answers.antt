use Rattle.rx_history.proofs.Delivered.{ends_as_the_subject_or_overflows}
use Rattle.rx_history.proofs.laws.ends_as_the_subject_or_overflows.Goals as goal

pub returns : goal.returns
returns c = ends_as_the_subject_or_overflows
