-- A count or an age out of its limits is refused, and a kind within both is not.
use Rattle.std.proofs.Common.{rules}
use Rattle.rx_note.proofs.kind.Kind.check.Goals as goal

pub returns-then-matches-2 : goal.returns-then-matches-2
returns-then-matches-2 c = search rules

pub returns : goal.returns
returns c = search rules
