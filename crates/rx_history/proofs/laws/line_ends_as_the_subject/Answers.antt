use Rattle.rx_history.proofs.Delivered.{line_ends_as_the_subject}
use Rattle.rx_history.proofs.laws.line_ends_as_the_subject.Goals as goal

pub returns : goal.returns
returns c = line_ends_as_the_subject
